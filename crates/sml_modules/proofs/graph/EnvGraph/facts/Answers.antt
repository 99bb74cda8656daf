use Rattle.std.proofs.Common.{◌∙◌}
use Rattle.sml_modules.specs.Items.{at}
use Rattle.sml_modules.proofs.Looking.{facts_of_env}
use Rattle.sml_modules.proofs.graph.EnvGraph.facts.Goals as goal

pub returns : goal.returns
returns c = c.facts_at.ensures ∙ facts_of_env (at c.args.self.now.items c.args.env.place) c.requires
