use Rattle.type_nodes.specs.Tables.{state}
use Rattle.known_environments.proofs.Staying.{envs_stay, not_true}
use Rattle.known_environments.proofs.putting.KnowingTypeChanges.keeps_all_with.Goals as goal

pub returns : goal.returns
returns c h = envs_stay (state c.args.self.now).stands c.args.facts (not_true c.args.facts.has_free h)
