use Rattle.std.proofs.Common.{◌∙◌, sym, ap}
use Rattle.sml_modules.specs.Nodes.{kind_of}
use Rattle.sml_modules.proofs.Looking.{kind_is}
use Rattle.sml_modules.proofs.graph.EnvGraph.kind_at.Goals as goal

pub returns-in-Some : goal.returns-in-Some
returns-in-Some c = c.kind.ensures ∙ kind_is c.args.self.now.items c.args.place c.in-Some.node.now c.in-Some.ensures.node

pub returns-in-None : goal.returns-in-None
returns-in-None c = sym (ap kind_of c.in-None.ensures.none)
