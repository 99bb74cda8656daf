use Rattle.std.proofs.Common.{ap}
use Rattle.semantic_objects.specs.Environments.{empty_env, with_structure}
use Rattle.sml_modules.specs.Graphs.{env_at}
use Rattle.core_scopes.specs.Scopes.{seen}
use Rattle.pattern_elab.specs.Scopes.{own_entry}
use Rattle.module_scopes.proofs.Rows.{on_both}
use Rattle.module_scopes.proofs.Tops.{goes_under}
use Rattle.module_scopes.proofs.binding.enter_parameter.Goals as goal

pub returns-clause-ok : goal.returns-clause-ok
returns-clause-ok c = on_both c.bind_structure.result c.bind_structure.ensures.ok c.bind_structure.ensures.bare
    (λ b adds g h. goes_under g c.args.scope.now c.bind_structure.new.self
    (λ read. with_structure c.in_ok-name.name (env_at g c.args.env) (seen g read c.args.scope.now))
    (with_structure c.args.name.now (env_at g c.args.env) empty_env) (b g h)
    (ap (λ n. with_structure n (env_at g c.args.env) (seen g own_entry c.args.scope.now)) c.in_ok-name.ensures) adds)
