-- The bindings of a `type` declaration, one after another. Only private functions cite this file.
use Rattle.std.specs.Prelude.{◌≡◌, ℕ, ◌<◌, List, [], ◌∷◌, length, Result}
use Rattle.std.specs.Option.{is_some}
use Rattle.cm_base.specs.declared.fault.Fault.{Fault}
use Rattle.semantic_objects.specs.declared.name.TyId.{TyId}
use Rattle.semantic_objects.specs.declared.name.TyId.TheVariants as id
use Rattle.semantic_objects.specs.declared.entry.TypeFn.{TypeFn}
use Rattle.semantic_objects.specs.declared.entry.ValueEntry.{ValueEntry}
use Rattle.semantic_objects.specs.Tables.{with_all}
use Rattle.semantic_objects.specs.Environments.{Env, env_of, types, empty_env}
use Rattle.unification.specs.Types.{Ty}
use Rattle.type_nodes.specs.Tables.{Table, state}
use Rattle.bare_phrases.specs.Phrases.{TyPhrase, TypPhrase}
use Rattle.sml_modules.specs.declared.parts.NamedType.{NamedType}
use Rattle.sml_modules.specs.Items.{map_rows}
use Rattle.sml_modules.specs.Graphs.{Graph, type_rows}
use Rattle.name_trails.specs.Trails.{Rows, last_entry}
use Rattle.static_semantics.specs.Inferring.{Progress, Scope, with_written_alone, Answer, ◌>>=◌, gives}
use Rattle.static_semantics.specs.TypeInference.{infer_ty, infer_types, new_label, listed, numbers, as_written, type_function}
use Rattle.static_semantics.specs.DatatypeInference.{counted}
use Rattle.core_scopes.specs.Scopes.{Bindings}
use Rattle.type_phrases.specs.Inferred.{Answers, KeepsTypes, progress, scope_in}

-- ---- lists of type variables

-- the ids of a list's variables
abbrev pub row_ids : Rows ℕ → Rows TyId
row_ids rows = map_rows (λ (n : ℕ). id.Variable n) rows

-- variables of a table for which nothing else stands
abbrev pub AreOwn : Table → Rows ℕ → Type 0
AreOwn t [] = Unit {0}
AreOwn t (row ∷ rows) = (row.1 < length t.births) × ((state t).stands row.1 ≡ Ty.Var row.1) × AreOwn t rows

-- .. which follow one another
pub record IsListIn (t : Table) (list : Rows ℕ) : Type 0 where
  pub own : AreOwn t list
  pub first : ℕ
  pub numbered : numbers list ≡ counted (length list) first

-- ---- single steps of the definition

-- the type of a phrase closed over a list
abbrev pub infer_closed : Scope → Rows ℕ → TyPhrase → Answer TypeFn
infer_closed sc list phrase = infer_ty sc phrase >>= λ ty. gives (type_function (numbers list) ty)

-- .. where no written type variables but those of the list are in scope
abbrev pub infer_function : Scope → Rows ℕ → TyPhrase → Answer TypeFn
infer_function sc list phrase = infer_closed (with_written_alone (as_written list) sc) list phrase

-- a binding after others
abbrev pub infer_bind : Scope → TypPhrase → Env → Progress → Answer (TypeFn × Progress)
infer_bind sc bind made st =
    listed sc bind.tyvars [] st
    >>= λ r. new_label sc bind.name (types made)
    >>= λ u. infer_function sc r.0 bind.ty
    >>= λ f. gives (f, r.1)

-- ---- what was read

-- the environment of types alone
abbrev pub env_of_types : List NamedType → Env
env_of_types made = env_of [] (with_all (type_rows made) []) []

-- a table tells the names of types
abbrev pub IsNamed : Rows (Unit {0}) → List NamedType → Type 0
IsNamed names made =
    (name : List ℕ) → is_some (last_entry (type_rows made) name) ≡ is_some (last_entry names name)

-- a binding was read
pub record IsBindStep {V : Type 0} (g : Graph) (old : Table) (sc : Bindings V) (names : Rows (Unit {0}))
    (bind : TypPhrase) (new : Table) (result : Result TypeFn Fault) : Type 0 where
  pub infers : (u : Table) (read : V → ValueEntry) (made : List NamedType) → IsNamed names made
      → Answers (infer_bind (scope_in g u read sc) bind (env_of_types made) (progress old g))
      (λ function. (function, progress new g)) result
  pub keeps : KeepsTypes old new

-- bindings were read
pub record AreBindsStep {V : Type 0} (g : Graph) (old : Table) (sc : Bindings V) (binds : List TypPhrase)
    (new : Table) (result : Result (List NamedType) Fault) : Type 0 where
  pub infers : (u : Table) (read : V → ValueEntry)
      → Answers (infer_types (scope_in g u read sc) binds empty_env (progress old g))
      (λ made. (env_of_types made, progress new g)) result
  pub keeps : KeepsTypes old new
