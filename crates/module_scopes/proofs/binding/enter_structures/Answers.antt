use Rattle.std.proofs.Common.{ap}
use Rattle.semantic_objects.specs.Environments.{modified_by}
use Rattle.core_scopes.specs.Scopes.{seen}
use Rattle.core_scopes.specs.Marks.{env_of_made}
use Rattle.pattern_elab.specs.Scopes.{own_entry}
use Rattle.module_scopes.specs.Tops.{structures_env}
use Rattle.module_scopes.proofs.Rows.{on_both}
use Rattle.module_scopes.proofs.Tops.{goes_under}
use Rattle.module_scopes.proofs.binding.enter_structures.Goals as goal

pub returns-clause-ok : goal.returns-clause-ok
returns-clause-ok c = on_both c.bind_made.result c.bind_made.ensures.ok c.bind_made.ensures.bare
    (λ b adds g h. goes_under g c.args.scope.now c.bind_made.new.self
    (λ read. modified_by (seen g read c.args.scope.now) (env_of_made g read c.in_ok-all.all))
    (structures_env g c.args.made.now) (b g (c.in_ok-all.ensures.there g h))
    (ap (modified_by (seen g own_entry c.args.scope.now)) (c.in_ok-all.ensures.is g)) adds)
