use Rattle.std.proofs.Common.{subst}
use Rattle.sml_modules.specs.Adding.{StandsAt}
use Rattle.sml_modules.proofs.Looking.{reads_env}
use Rattle.sml_modules.proofs.graph.EnvGraph.env_tables.Goals as goal

pub returns-in-Env : goal.returns-in-Env
returns-in-Env c = reads_env c.args.self.now.items c.args.env.place c.in-Env.kept
    (subst (StandsAt c.args.self.now.items c.args.env.place) c.in-Env.is c.in-Some.ensures.node)
