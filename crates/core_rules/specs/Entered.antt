-- Scopes that the variables of patterns were entered into. The Definition of Standard ML (Revised), rules 14 and 26.
use Rattle.std.specs.Prelude.{◌≡◌}
use Rattle.type_nodes.specs.Tables.{Table}
use Rattle.sml_modules.specs.Graphs.{Graph}
use Rattle.name_trails.specs.Trails.{Rows}
use Rattle.static_semantics.specs.Inferring.{under_bound}
use Rattle.core_scopes.specs.Scopes.{Bindings}
use Rattle.core_scopes.specs.Marks.{IsFrontOf}
use Rattle.pattern_elab.specs.declared.own.OwnVariable.{OwnVariable}
use Rattle.pattern_elab.specs.Scopes.{bound_of, scope_of, IsCoreScope}

-- what is in scope is what was, under the variables that patterns bound; marks of the scope before stay good
pub record IsEntered (g : Graph) (rows : Rows OwnVariable) (old new : Bindings OwnVariable) : Type 0 where
  pub seen : scope_of g new ≡ under_bound (bound_of rows) (scope_of g old)
  pub front : IsFrontOf old new
  pub there : (t : Table) → IsCoreScope g t old → IsCoreScope g t new
