-- Scopes that what a declaration makes was entered into. The Definition of Standard ML (Revised), sections 4.2 and 4.3.
use Rattle.std.specs.Prelude.{◌≡◌, List, Option, Some, None}
use Rattle.semantic_objects.specs.Environments.{Env}
use Rattle.type_nodes.specs.Tables.{Table}
use Rattle.sml_modules.specs.Items.{map_rows}
use Rattle.sml_modules.specs.Graphs.{Graph}
use Rattle.static_semantics.specs.Inferring.{under}
use Rattle.name_trails.specs.Trails.{Rows}
use Rattle.table_schemes.specs.declared.scheme.TableScheme.{TableScheme}
use Rattle.core_scopes.specs.declared.made.NamedInScope.{NamedInScope}
use Rattle.core_scopes.specs.declared.value.BoundValue.{BoundValue}
use Rattle.core_scopes.specs.declared.value.ValueInScope.{ValueInScope}
use Rattle.core_scopes.specs.declared.value.ValueInScope.TheVariants as value
use Rattle.core_scopes.specs.Scopes.{Bindings, value_of, AreHeld}
use Rattle.core_scopes.specs.Listed.{scope_rows}
use Rattle.core_scopes.specs.Marks.{IsFrontOf, AddsBound}
use Rattle.type_phrases.specs.Inferred.{KeepsTypes}
use Rattle.pattern_elab.specs.declared.own.OwnVariable.{OwnVariable}
use Rattle.pattern_elab.specs.Scopes.{scope_of, IsCoreScope}

-- what is in scope is what was, under what was made; marks of the scope before stay good, and so does the scope, as long
-- as a table keeps what it had then
pub record IsUnder (g : Graph) (since : Table) (made : Env) (old new : Bindings OwnVariable) : Type 0 where
  pub seen : scope_of g new ≡ under made (scope_of g old)
  pub front : IsFrontOf old new
  pub there : (t : Table) → KeepsTypes since t → IsCoreScope g t old → IsCoreScope g t new

-- a scheme of a table is bound with a value; nothing is asked of a variable that a pattern bound
abbrev pub HasScheme : ValueInScope OwnVariable → Option TableScheme → Type 0
HasScheme (value.Entry entry) (Some scheme) = Unit {0}
HasScheme (value.Entry entry) None = ⊥
HasScheme (value.Own own) scheme = Unit {0}

abbrev pub IsGiven : BoundValue OwnVariable → Type 0
IsGiven bound = HasScheme bound.value bound.scheme

-- these values were bound, each with a scheme: that of the value where the scope is one of the table
abbrev pub BindsGiven : List (NamedInScope OwnVariable) → Bindings OwnVariable → Bindings OwnVariable → Type 0
BindsGiven values old new = (rows : Rows (BoundValue OwnVariable)) × AddsBound rows old new
    × (map_rows value_of rows ≡ scope_rows values) × AreHeld IsGiven rows
