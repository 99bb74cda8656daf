use Rattle.std.proofs.Common.{◌∙◌, sym, ap}
use Rattle.sml_modules.specs.Items.{item_facts}
use Rattle.sml_modules.proofs.Looking.{kept_is}
use Rattle.sml_modules.proofs.graph.EnvGraph.facts_at.Goals as goal

pub returns-in-Some : goal.returns-in-Some
returns-in-Some c = c.facts.ensures ∙ kept_is c.args.self.now.items c.args.place c.in-Some.node.now c.in-Some.ensures.node

pub returns-in-None : goal.returns-in-None
returns-in-None c = c.none.ensures ∙ sym (ap item_facts c.in-None.ensures.none)
