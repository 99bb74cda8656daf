-- The type that a type phrase stands for, and what `type` binds. The Definition, rules 44 to 48 and 27.
use Rattle.std.specs.Prelude.{ℕ, List, [], ◌∷◌, ◌++◌, length, map, get_or, true, not, eqb}
use Rattle.std.specs.Option.{is_some}
use Rattle.sml_trees.specs.declared.name.Name.{Name}
use Rattle.semantic_objects.specs.declared.entry.TypeFn.{TypeFn}
use Rattle.semantic_objects.specs.declared.entry.TypeStr.{TypeStr}
use Rattle.semantic_objects.specs.Tables.{Table, entry, with_entry}
use Rattle.semantic_objects.specs.Environments.{Env, types, with_type}
use Rattle.unification.specs.Types.{Ty}
use Rattle.unification.specs.Instances.{fill, with_variable}
use Rattle.unification.specs.Closing.{closed_over}
use Rattle.bare_phrases.specs.Phrases.{TyPhrase, TyFields, TyPhrases, TypPhrase}
use Rattle.static_semantics.specs.BasicTypes.{unit_ty, arrow_ty, record_ty, is_equality_variable}
use Rattle.static_semantics.specs.Inferring.{Progress, with_types, Scope, with_written_alone, Answer, ◌>>=◌, gives, refuses_where, name_at, known, found_at, named, is_named}

-- a type variable: 30 where it isn't in scope
abbrev pub variable_ty : Scope → Name → Answer Ty
variable_ty sc name = known sc (record { parts = name.text ∷ []; line = name.line; col = name.col })
    (named name.text sc.written)

-- a type function of some arguments
abbrev pub applied_to : TypeFn → List Ty → Ty
applied_to function args = fill (λ i. get_or args i unit_ty) Ty.Var function.body

-- a label of a record that an earlier field has: 40 at it
abbrev pub new_label : {A : Type 0} → Scope → Name → Table A → Answer (Unit {0})
new_label sc label fields = refuses_where (is_some (entry label.text fields)) 40 sc (name_at label)

abbrev mutual
  pub infer_ty : Scope → TyPhrase → Answer Ty
  infer_ty sc (TyPhrase.Var name at) = variable_ty sc name
  infer_ty sc (TyPhrase.Record fields at) = infer_ty_fields sc fields [] >>= λ made. gives (record_ty made)
  infer_ty sc (TyPhrase.Named args long at) =
      infer_tys sc args
      >>= λ made. known sc long (found_at types long.parts sc.env)
      >>= λ found. refuses_where (not (eqb (length made) found.function.arity)) 35 sc at
      >>= λ u. gives (applied_to found.function made)
  infer_ty sc (TyPhrase.Arrow from to at) =
      infer_ty sc from
      >>= λ a. infer_ty sc to
      >>= λ b. gives (arrow_ty a b)

  -- fields after others, which are given by label
  pub infer_ty_fields : Scope → TyFields → Table Ty → Answer (Table Ty)
  infer_ty_fields sc TyFields.EndOfFields made = gives made
  infer_ty_fields sc (TyFields.Field label ty rest) made =
      new_label sc label made
      >>= λ u. infer_ty sc ty
      >>= λ t. infer_ty_fields sc rest (with_entry label.text t made)

  pub infer_tys : Scope → TyPhrases → Answer (List Ty)
  infer_tys sc TyPhrases.EndOfArgs = gives []
  infer_tys sc (TyPhrases.Arg ty rest) =
      infer_ty sc ty
      >>= λ t. infer_tys sc rest
      >>= λ ts. gives (t ∷ ts)

-- ---- lists of type variables

-- a new variable that stands for itself alone, marked where its text says so
abbrev pub new_rigid : List ℕ → Progress → Progress
new_rigid text st = with_types (with_variable true (is_equality_variable text) st.types) st

-- the variables of a list, after those before them in it, each by its text and its number: 40 at one that is before
abbrev pub listed : Scope → List Name → List (List ℕ × ℕ) → Progress → Answer (List (List ℕ × ℕ) × Progress)
listed sc [] before st = gives (before, st)
listed sc (name ∷ names) before st =
    refuses_where (is_named name.text before) 40 sc (name_at name)
    >>= λ u. listed sc names (before ++ (name.text, st.types.next) ∷ []) (new_rigid name.text st)

abbrev pub numbers : List (List ℕ × ℕ) → List ℕ
numbers rows = map (λ row. row.1) rows

-- such variables as types in scope
abbrev pub as_written : List (List ℕ × ℕ) → List (List ℕ × Ty)
as_written rows = map (λ row. (row.0, Ty.Var row.1)) rows

-- ---- `type`

abbrev pub type_function : List ℕ → Ty → TypeFn
type_function vs ty = record { arity = length vs; body = closed_over vs ty }

abbrev pub plain_type : TypeFn → TypeStr
plain_type function = record { function = function; cons = [] }

-- the bindings of one `type`, after those before them in it: each sees the environment before the declaration
abbrev pub infer_types : Scope → List TypPhrase → Env → Progress → Answer (Env × Progress)
infer_types sc [] made st = gives (made, st)
infer_types sc (bind ∷ binds) made st =
    listed sc bind.tyvars [] st
    >>= λ r. new_label sc bind.name (types made)
    >>= λ u. infer_ty (with_written_alone (as_written r.0) sc) bind.ty
    >>= λ ty. infer_types sc binds (with_type bind.name.text (plain_type (type_function (numbers r.0) ty)) made) r.1
