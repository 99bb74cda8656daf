-- What is in scope where a phrase of the core is elaborated, and the variables that a pattern binds.
-- The Definition of Standard ML (Revised), sections 4.2 and 4.3.
use Rattle.std.specs.Prelude.{◌≡◌, ◌<◌, ℕ, List, [], ◌∷◌, length, Option, Some, None}
use Rattle.semantic_objects.specs.declared.name.TyId.{TyId}
use Rattle.semantic_objects.specs.declared.name.TyId.TheVariants as id
use Rattle.semantic_objects.specs.declared.entry.ValueEntry.{ValueEntry}
use Rattle.semantic_objects.specs.Trees.{TypeScheme}
use Rattle.semantic_objects.specs.Environments.{values}
use Rattle.sml_trees.specs.declared.name.LongName.{LongName}
use Rattle.unification.specs.Types.{Ty}
use Rattle.type_nodes.specs.Tables.{Table}
use Rattle.sml_modules.specs.Items.{map_rows}
use Rattle.sml_modules.specs.Graphs.{Graph}
use Rattle.name_trails.specs.Trails.{Rows, last_entry}
use Rattle.static_semantics.specs.BasicTypes.{unit_ty}
use Rattle.static_semantics.specs.Inferring.{Scope, Bound, variable_entry, found_at}
use Rattle.table_schemes.specs.declared.scheme.TableScheme.{TableScheme}
use Rattle.table_schemes.specs.Meaning.{IsTableScheme}
use Rattle.core_scopes.specs.declared.value.BoundValue.{BoundValue}
use Rattle.core_scopes.specs.declared.value.ValueInScope.{ValueInScope}
use Rattle.core_scopes.specs.Scopes.{Bindings, entry_of, seen, written_of, AreHeld, IsScopeOf}
use Rattle.pattern_elab.specs.declared.own.OwnVariable.{OwnVariable}

-- the type of a variable that a pattern bound
abbrev pub own_ty : OwnVariable → Ty
own_ty own = Ty.Var own.number

-- .. as an entry: nothing is closed
abbrev pub own_entry : OwnVariable → ValueEntry
own_entry own = variable_entry (own_ty own)

-- the variables that patterns bound, in the order in which they did
abbrev pub bound_of : Rows OwnVariable → Bound
bound_of rows = map_rows own_ty rows

-- what stands for a written type variable: a variable of the table
abbrev pub variable_of : TyId → Ty
variable_of (id.Variable n) = Ty.Var n
variable_of (id.Made i) = unit_ty

-- what is in scope as inference reads it. It doesn't hang on what the table knows
abbrev pub scope_of : Graph → Bindings OwnVariable → Scope
scope_of g sc =
    record { env = seen g own_entry sc; written = map_rows variable_of (written_of sc); home = g.home }

-- an id is a variable of a table
abbrev pub IsVariableOf : Table → TyId → Type 0
IsVariableOf t (id.Variable n) = n < length t.births
IsVariableOf t (id.Made i) = ⊥

abbrev pub AreVariables : Table → Rows TyId → Type 0
AreVariables t [] = Unit {0}
AreVariables t (row ∷ rows) = IsVariableOf t row.1 × AreVariables t rows

-- what a table is said to have of a scheme it has: nothing, or its type
abbrev pub MayBeEntered : Table → TypeScheme → Option TableScheme → Type 0
MayBeEntered t σ None = Unit {0}
MayBeEntered t σ (Some scheme) = IsTableScheme t σ scheme

-- .. of the scheme of a value
abbrev pub IsEnteredIn : Table → BoundValue OwnVariable → Type 0
IsEnteredIn t bound = MayBeEntered t (entry_of own_entry bound.value).scheme bound.scheme

-- a scope of a graph in which each written type variable stands for a variable of a table, and the table has what it is
-- said to have
pub record IsCoreScope (g : Graph) (t : Table) (sc : Bindings OwnVariable) : Type 0 where
  pub there : IsScopeOf g sc
  pub written : AreVariables t (written_of sc)
  pub entered : AreHeld (IsEnteredIn t) sc.values

-- a long name stands for a value in some graph: what is bound under one part hangs on none
abbrev pub StandsFor : Bindings OwnVariable → LongName → ValueInScope OwnVariable → Type 0
StandsFor sc long value = (g : Graph) × (found_at values long.parts (scope_of g sc).env ≡ Some (entry_of own_entry value))

-- what a long name of one part was bound to last
abbrev pub IsLastUnder : Bindings OwnVariable → LongName → BoundValue OwnVariable → Type 0
IsLastUnder sc long bound = (name : List ℕ) × (long.parts ≡ name ∷ []) × (last_entry sc.values name ≡ Some bound)
