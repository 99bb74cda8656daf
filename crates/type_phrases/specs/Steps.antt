-- Single steps of the inference of type phrases. Only private functions cite this file.
use Rattle.std.specs.Prelude.{◌≡◌, List, [], length, map, not, eqb, Result, IfOk}
use Rattle.cm_base.specs.declared.fault.Fault.{Fault}
use Rattle.sml_trees.specs.declared.name.At.{At}
use Rattle.sml_trees.specs.declared.name.LongName.{LongName}
use Rattle.semantic_objects.specs.declared.name.TyId.{TyId}
use Rattle.semantic_objects.specs.declared.entry.ValueEntry.{ValueEntry}
use Rattle.semantic_objects.specs.Symbols.{AreDiffering}
use Rattle.semantic_objects.specs.Tables.{names_of}
use Rattle.semantic_objects.specs.Environments.{types}
use Rattle.unification.specs.Types.{Ty}
use Rattle.type_nodes.specs.Tables.{Table, Has, state, type_of}
use Rattle.type_schemes.specs.Schemes.{HaveAll}
use Rattle.bare_phrases.specs.Phrases.{TyPhrase, TyFields, TyPhrases}
use Rattle.sml_modules.specs.Items.{map_rows}
use Rattle.sml_modules.specs.Graphs.{Graph}
use Rattle.name_trails.specs.Trails.{Rows}
use Rattle.static_semantics.specs.Inferring.{Scope, Answer, ◌>>=◌, gives, refuses_where, known, found_at}
use Rattle.static_semantics.specs.TypeInference.{applied_to, infer_ty, infer_tys, infer_ty_fields}
use Rattle.core_scopes.specs.Scopes.{Bindings, seen, written_of}
use Rattle.type_phrases.specs.Inferred.{KeepsTypes, Answers, IsScopeOver, HaveRows, made_fields}

-- a scope as inference reads it
pub record IsReadAs {V : Type 0} (g : Graph) (t : Table) (sc : Bindings V) (inner : Scope) : Type 0 where
  pub home : inner.home ≡ g.home
  pub written : inner.written ≡ map_rows (type_of t) (written_of sc)
  pub read : V → ValueEntry
  pub env : inner.env ≡ seen g read sc

-- types were made, and nothing else was done
pub record OnlyMakes (old new : Table) : Type 0 where
  pub keeps : KeepsTypes old new
  pub state : state new ≡ state old

-- a type constructor after its arguments
abbrev pub applied_ty : Scope → List Ty → LongName → At → Answer Ty
applied_ty sc made long at =
    known sc long (found_at types long.parts sc.env)
    >>= λ found. refuses_where (not (eqb (length made) found.function.arity)) 35 sc at
    >>= λ u. gives (applied_to found.function made)

-- the ids of rows
abbrev pub ids_in : Rows TyId → List TyId
ids_in rows = map (λ row. row.1) rows

-- a phrase was read: the id that was made, or the first diagnostic, and what the table is then
pub record IsRead {V : Type 0} (g : Graph) (old : Table) (sc : Bindings V) (phrase : TyPhrase) (new : Table)
    (result : Result TyId Fault) : Type 0 where
  pub infers : (inner : Scope) → IsReadAs g old sc inner → Answers (infer_ty inner phrase) (type_of new) result
  pub has : IfOk result (Has new)
  pub over : IsScopeOver g new sc
  pub makes : OnlyMakes old new

-- .. arguments
pub record AreArgs {V : Type 0} (g : Graph) (old : Table) (sc : Bindings V) (args : TyPhrases) (new : Table)
    (result : Result (List TyId) Fault) : Type 0 where
  pub infers : (inner : Scope) → IsReadAs g old sc inner → Answers (infer_tys inner args) (map (type_of new)) result
  pub have : IfOk result (HaveAll new)
  pub over : IsScopeOver g new sc
  pub makes : OnlyMakes old new

-- .. a type constructor with its arguments
pub record IsApplied {V : Type 0} (g : Graph) (old : Table) (sc : Bindings V) (args : List TyId) (long : LongName)
    (at : At) (new : Table) (result : Result TyId Fault) : Type 0 where
  pub infers : (inner : Scope) → IsReadAs g old sc inner
      → Answers (applied_ty inner (map (type_of old) args) long at) (type_of new) result
  pub has : IfOk result (Has new)
  pub makes : OnlyMakes old new

-- .. fields, whose labels differ
pub record AreFields {V : Type 0} (g : Graph) (old : Table) (sc : Bindings V) (fields : TyFields) (new : Table)
    (result : Result (Rows TyId) Fault) : Type 0 where
  pub infers : (inner : Scope) → IsReadAs g old sc inner
      → Answers (infer_ty_fields inner fields []) (made_fields new) result
  pub have : IfOk result (HaveRows new)
  pub differing : IfOk result (λ rows. AreDiffering (names_of rows))
  pub over : IsScopeOver g new sc
  pub makes : OnlyMakes old new
