use Rattle.std.proofs.Common.{subst}
use Rattle.std.specs.Prelude.{IfOk}
use Rattle.semantic_objects.specs.Environments.{Env}
use Rattle.type_nodes.specs.Tables.{state}
use Rattle.sml_modules.specs.Graphs.{env_at, GivesEnv}
use Rattle.environment_walks.proofs.Changes.{no_images, env_kept_ok}
use Rattle.known_environments.specs.Known.{known_by}
use Rattle.known_environments.proofs.Staying.{put_changed}
use Rattle.known_environments.proofs.putting.put_known.Goals as goal

pub change_env-requires-clause-changed : goal.change_env-requires-clause-changed
change_env-requires-clause-changed c =
    no_images (known_by c.args.by.now) c.args.g.now.items c.new-images.result (λ p. c.new-images.ensures p)

pub returns-clause-gives : goal.returns-clause-gives
returns-clause-gives c = subst (λ (e : Env). IfOk c.change_env.result (GivesEnv c.args.g.now c.change_env.new.graph e))
    (put_changed (state c.args.by.now).stands (env_at c.args.g.now c.args.env))
    (env_kept_ok (known_by c.args.by.now) c.args.g.now c.change_env.new.graph c.args.env
    c.change_env.result c.change_env.ensures.extends c.change_env.ensures.env)
