use Rattle.sml_modules.specs.Items.{at}
use Rattle.sml_modules.proofs.Looking.{is_env, is_no_env}
use Rattle.sml_modules.proofs.graph.EnvGraph.has_env.Goals as goal

pub returns-in-Env : goal.returns-in-Env
returns-in-Env c = is_env (at c.args.self.now.items c.args.id.place) c.kind_at.result c.kind_at.ensures c.in-Env.is

pub returns-in_default : goal.returns-in_default
returns-in_default c = is_no_env (at c.args.self.now.items c.args.id.place) c.kind_at.result c.kind_at.ensures
    c.in_default.not-Env
