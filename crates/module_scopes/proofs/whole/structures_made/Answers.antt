use Rattle.std.proofs.Common.{◌∙◌, subst}
use Rattle.std.specs.Prelude.{IfOk}
use Rattle.semantic_objects.specs.Environments.{Env}
use Rattle.sml_modules.specs.Graphs.{GivesEnv}
use Rattle.module_scopes.proofs.Listing.{entries_listed, envs_listed}
use Rattle.module_scopes.proofs.whole.structures_made.Goals as goal

pub make_env-requires : goal.make_env-requires
make_env-requires c = envs_listed c.args.g.now c.in_ok-structures.structures c.args.made.now
    (c.in_ok-structures.ensures ∙ c.rows.ensures) c.requires

pub returns-clause-ok : goal.returns-clause-ok
returns-clause-ok c = subst (λ (e : Env). IfOk c.make_env.result (GivesEnv c.args.g.now c.make_env.new.self e))
    (entries_listed c.args.g.now c.in_ok-structures.structures c.new.result c.new-2.result c.args.made.now
    (c.in_ok-structures.ensures ∙ c.rows.ensures) c.new.ensures c.new-2.ensures) c.make_env.ensures.ok
