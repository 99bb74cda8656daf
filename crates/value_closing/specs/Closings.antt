-- The variables of a `val` one after another, in a table of types. Only private functions cite this file.
use Rattle.std.specs.Prelude.{◌≡◌, ℕ, List, [], ◌∷◌, ◌++◌, map, Bool, true, false, cond, slice_get, Some}
use Rattle.cm_base.specs.declared.fault.Fault.{Fault}
use Rattle.sml_trees.specs.declared.name.At.{At}
use Rattle.semantic_objects.specs.declared.name.TyId.{TyId}
use Rattle.semantic_objects.specs.declared.name.TyId.TheVariants as id
use Rattle.semantic_objects.specs.declared.entry.VidStatus.TheVariants as status
use Rattle.semantic_objects.specs.Symbols.{same_bool}
use Rattle.semantic_objects.specs.Trees.{TypeScheme}
use Rattle.unification.specs.Types.{Ty, State}
use Rattle.unification.specs.Closing.{scheme_over}
use Rattle.type_nodes.specs.Tables.{Table, state, whole}
use Rattle.sml_modules.specs.Graphs.{Graph}
use Rattle.name_trails.specs.Trails.{Rows}
use Rattle.core_scopes.specs.declared.made.NamedInScope.{NamedInScope}
use Rattle.core_scopes.specs.declared.value.ValueInScope.{ValueInScope}
use Rattle.core_scopes.specs.declared.value.ValueInScope.TheVariants as value
use Rattle.type_phrases.specs.Inferred.{Refuses}
use Rattle.pattern_elab.specs.declared.own.OwnVariable.{OwnVariable}
use Rattle.closing_laws.specs.Variables.{Closing, closed_entry}
use Rattle.value_closing.specs.declared.closing.ClosingVariable.{ClosingVariable}

abbrev pub closing_of : ClosingVariable → Closing
closing_of x = (x.closes, (x.name, Ty.Var x.number))

abbrev pub closings : List ClosingVariable → List Closing
closings xs = map closing_of xs

-- the ids of those that are closed, or of those that aren't
abbrev pub id_where : Bool → ClosingVariable → List TyId
id_where closes x = cond (same_bool x.closes closes) (id.Variable x.number ∷ []) []

abbrev pub ids_where : Bool → List ClosingVariable → List TyId
ids_where closes [] = []
ids_where closes (x ∷ xs) = id_where closes x ++ ids_where closes xs

-- what they stand for behind the `val`, as values in scope
abbrev pub entry_rows : (ℕ → Bool) → State → List ClosingVariable → Rows (ValueInScope OwnVariable)
entry_rows kept s xs = map (λ (x : ClosingVariable). (x.name, value.Entry (closed_entry kept s (closing_of x)))) xs

-- which scheme a variable has: the last one that is left, or that of its type as it is
abbrev pub HasScheme : Bool → Table → ℕ → List TypeScheme → List TypeScheme → TypeScheme → Type 0
HasScheme true t n old new σ = old ≡ new ++ σ ∷ []
HasScheme false t n old new σ =
    (new ≡ old) × (σ ≡ scheme_over [] (state t).marks (whole t (id.Variable n)))

pub record IsValueBy (t : Table) (x : ClosingVariable) (old new : List TypeScheme) (named : NamedInScope OwnVariable) :
    Type 0 where
  pub scheme : TypeScheme
  pub name : named.name ≡ x.name
  pub entry : named.entry ≡ value.Entry (record { status = status.Variable; scheme = scheme })
  pub has : HasScheme x.closes t x.number old new scheme

-- ---- written type variables

abbrev pub ids_of : List (List ℕ × ℕ) → List TyId
ids_of rows = map (λ row. id.Variable row.1) rows

-- 37 that shows the name of the row at a place
abbrev pub NamesAt : Graph → At → List (List ℕ × ℕ) → ℕ → Fault → Type 0
NamesAt g at rows place e =
    (row : List ℕ × ℕ) → slice_get rows place ≡ Some row → Refuses g 37 at (row.0 ∷ []) e
