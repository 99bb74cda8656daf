use Rattle.std.proofs.Common.{ap, ◌∙◌, take}
use Rattle.sml_modules.proofs.Growing.{cut_are, cut_is}
use Rattle.sml_modules.proofs.graph.EnvGraph.cut.Goals as goal

pub invariant_of-self : goal.invariant_of-self
invariant_of-self c = cut_are c.self.inside.nodes c.from_vec.result c.args.len c.self.invariant
    (c.from_vec.ensures ∙ c.truncate.ensures.items
    ∙ ap (take c.args.len) (c.into_vec-nodes.ensures ∙ c.replace.ensures.value))

pub returns : goal.returns
returns c = cut_is c.self.inside.nodes c.from_vec.result c.self.inside.home c.self.inside.made c.args.self.now
    c.args.len c.self.view_is
    (c.from_vec.ensures ∙ c.truncate.ensures.items
    ∙ ap (take c.args.len) (c.into_vec-nodes.ensures ∙ c.replace.ensures.value))
