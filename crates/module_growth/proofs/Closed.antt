-- What matching puts holds no variable of a table, and closed environments are environments of each state.
use Rattle.std.proofs.Common.{◌≡◌, ℕ, List, [], ◌∷◌, ◌++◌, sym, subst, Option, Some, None, Bool, ◌&&◌, not, eqb}
use Rattle.std.specs.List.{list_any}
use Rattle.sml_trees.specs.declared.name.At.{At}
use Rattle.semantic_objects.specs.declared.name.TyName.{TyName}
use Rattle.semantic_objects.specs.declared.entry.ConEntry.{ConEntry}
use Rattle.semantic_objects.specs.declared.entry.TypeFn.{TypeFn}
use Rattle.semantic_objects.specs.declared.entry.TypeStr.{TypeStr}
use Rattle.semantic_objects.specs.declared.entry.ValueEntry.{ValueEntry}
use Rattle.semantic_objects.specs.Symbols.{same_name}
use Rattle.semantic_objects.specs.Tables.{Table, with_entry}
use Rattle.semantic_objects.specs.Trees.{Tree, TypeScheme}
use Rattle.semantic_objects.specs.Environments.{Env, Structures, Signature, structures_of, structures, types, with_structure}
use Rattle.unification.specs.Types.{Ty, Substitution, State}
use Rattle.unification.specs.Fitting.{Below}
use Rattle.realisation.specs.Realised.{of_rows, realised, function_admits}
use Rattle.static_semantics.specs.BasicTypes.{unit_ty}
use Rattle.static_semantics.specs.Inferring.{Scope, found_at, seen}
use Rattle.static_semantics.specs.DatatypeInference.{own_type}
use Rattle.static_semantics.specs.EnvironmentsPut.{put_type, put_value, each_entry, put_env, put_structures}
use Rattle.static_semantics.specs.Holding.{Given, IfSome, AllItems, AllRows, ConHas, TypeHas, ValueHas, StructuresHave}
use Rattle.static_semantics.specs.Growing.{TyIn, SchemeIn, FunctionIn, EnvIn}
use Rattle.static_semantics.proofs.Holding.{given_then, given_where, rows_with, has_structures, has_types, has_values, table_structures, has_found}
use Rattle.inference_laws.specs.Nodes.{Nodes, SchemeOf, FunctionOf, EnvOf}
use Rattle.inference_laws.specs.Naming.{RowsWith, StructuresWith}
use Rattle.inference_laws.specs.Alike.{IsFirm, FirmType, FirmValue, AnyName, FirmEnv}
use Rattle.inference_laws.specs.Promises.{Any}
use Rattle.inference_laws.proofs.EnvsWith.{items_after, env_structures, env_types, env_values}
use Rattle.inference_laws.proofs.Firm.{within_firm, unit_within}
use Rattle.inference_laws.proofs.PutAlike.{firm_type}
use Rattle.module_semantics.specs.SignatureNames.{name_alone, rows_between}
use Rattle.module_semantics.specs.Matching.{Item, items, present, Rows, if_flexible, realising, realising_item, realising_all, is_left, realisation_of, enriching_all, matching, matched}
use Rattle.unit_semantics.specs.Promises.{IsClosedScheme, IsClosedFunction, IsClosedEnv}
use Rattle.unit_semantics.proofs.Answers.{always}
use Rattle.unit_semantics.proofs.Closed.{PutsClosed, first_closed, own_closed, realised_closed}
use Rattle.datatype_laws.specs.Below.{AnyScheme}
use Rattle.matching_choices.proofs.Closed.{none_free, free_none}

-- ---- types of an environment as it is known

-- no variable stands in its type functions
abbrev pub TypesClosed : Env → Type 0
TypesClosed env = Rattle.static_semantics.specs.Holding.EnvHas AnyScheme IsClosedFunction env

any_cons : (cons : List ConEntry) → AllItems (ConHas AnyScheme) cons
any_cons [] = tt
any_cons (con ∷ cons) = (tt, any_cons cons)

types_known : (s : Substitution) (ts : Table TypeStr) → RowsWith AnyName FirmType ts
    → AllRows (TypeHas AnyScheme IsClosedFunction) (each_entry (put_type s) ts)
types_known s [] h = tt
types_known s (row ∷ rows) h = (
  (
    subst (λ (z : TypeStr). IsClosedFunction z.function) (sym (firm_type s row.1 h.1))
        (none_free row.1.function.body h.1.0),
    any_cons (put_type s row.1).cons,
  ),
  types_known s rows h.2,
)

values_known : (s : Substitution) (vs : Table ValueEntry)
    → AllRows (ValueHas AnyScheme) (each_entry (put_value s) vs)
values_known s [] = tt
values_known s (row ∷ rows) = (tt, values_known s rows)

mutual
  pub env_types_known : (s : Substitution) (env : Env) → FirmEnv env → TypesClosed (put_env s env)
  env_types_known s (Env.MakeEnv ss ts vs) h =
      (structures_known s ss h.0, types_known s ts h.1, values_known s vs)

  structures_known : (s : Substitution) (ss : Structures) → StructuresWith AnyName FirmType FirmValue ss
      → StructuresHave AnyScheme IsClosedFunction (put_structures s ss)
  structures_known s Structures.Nil h = tt
  structures_known s (Structures.Cons name env rest) h =
      (env_types_known s env h.1, structures_known s rest h.2)

-- ---- rows of matching

abbrev pub RowsClosed : Rows → Type 0
RowsClosed rows = AllItems (λ (row : TyName × TypeFn). IsClosedFunction row.1) rows

rows_by : (rows : Rows) → RowsClosed rows → (name : TyName) (by : TypeFn) → of_rows rows name ≡ Some by
    → IsClosedFunction by
rows_by [] h name by e = absurd (cc)
rows_by (row ∷ rows) h name by e =
    first_closed (same_name row.0 name) row.1 by (of_rows rows name) h.0 (λ i. rows_by rows h.1 name by i) e

pub rows_put : (rows : Rows) → RowsClosed rows → PutsClosed (of_rows rows)
rows_put rows h = record { by = rows_by rows h }

pub names_closed : (olds news : List TyName) → RowsClosed (rows_between olds news)
names_closed [] news = tt
names_closed (old ∷ olds) [] = tt
names_closed (old ∷ olds) (new ∷ news) = (own_closed new, names_closed olds news)

given_present : {A : Type 0} (R : A → Type 0) (sc : Scope) (at : At) (path : List (List ℕ)) (o : Option A) → IfSome R o
    → Given R (present sc at path o)
given_present R sc at path None h = tt
given_present R sc at path (Some x) h = h

realising_closed : (sc : Scope) (at : At) (s : State) (env : Env) (path : List (List ℕ)) (rows : Rows)
    (o : Option TyName) → TypesClosed env → RowsClosed rows → Given RowsClosed (realising sc at s env path rows o)
realising_closed sc at s env path rows None h k = k
realising_closed sc at s env path rows (Some name) h k =
    given_then (TypeHas AnyScheme IsClosedFunction) RowsClosed (present sc at path (found_at types path env)) _
    (given_present (TypeHas AnyScheme IsClosedFunction) sc at path (found_at types path env)
    (has_found AnyScheme IsClosedFunction (TypeHas AnyScheme IsClosedFunction) types
    (has_types AnyScheme IsClosedFunction) path env h)) (λ str l.
    given_where RowsClosed (not (eqb str.function.arity name.arity)) 35 sc at _
    (given_where RowsClosed (name.eq && not (function_admits s.marks str.function)) 33 sc at _
    (items_after (λ (row : TyName × TypeFn). IsClosedFunction row.1) rows ((name, str.function) ∷ []) k (l.0, tt))))

item_closed : (sc : Scope) (at : At) (s : State) (env : Env) (bound : List TyName) (item : Item) (rows : Rows)
    → TypesClosed env → RowsClosed rows → Given RowsClosed (realising_item sc at s env bound item rows)
item_closed sc at s env bound (Item.StructureItem path) rows h k =
    always RowsClosed (present sc at path (found_at structures path env)) _ (λ e. k)
item_closed sc at s env bound (Item.TypeItem path str) rows h k =
    realising_closed sc at s env path rows (if_flexible bound rows (name_alone str.function)) h k
item_closed sc at s env bound (Item.ValueItem path value) rows h k = k

all_closed : (sc : Scope) (at : At) (s : State) (env : Env) (bound : List TyName) (xs : List Item) (rows : Rows)
    → TypesClosed env → RowsClosed rows → Given RowsClosed (realising_all sc at s env bound xs rows)
all_closed sc at s env bound [] rows h k = k
all_closed sc at s env bound (x ∷ xs) rows h k =
    given_then RowsClosed RowsClosed (realising_item sc at s env bound x rows) (realising_all sc at s env bound xs)
    (item_closed sc at s env bound x rows h k) (λ more l. all_closed sc at s env bound xs more h l)

pub matching_closed : (sc : Scope) (at : At) (s : State) (env : Env) (sig : Signature) → TypesClosed env
    → Given RowsClosed (matching sc at s env sig)
matching_closed sc at s env sig h =
    given_then RowsClosed RowsClosed (realisation_of sc at s env sig) _
    (given_then RowsClosed RowsClosed (realising_all sc at s env sig.bound (items sig.env) []) _
    (all_closed sc at s env sig.bound (items sig.env) [] h tt) (λ rows k.
    given_where RowsClosed (list_any (is_left rows) sig.bound) 37 sc at _ k)) (λ rows k.
    always RowsClosed (enriching_all sc at s env (items (realised (of_rows rows) sig.env))) _ (λ u. k))

pub matched_closed : (sc : Scope) (at : At) (s : State) (env : Env) (sig : Signature) → TypesClosed env
    → IsClosedEnv sig.env → Given IsClosedEnv (matched sc at s env sig)
matched_closed sc at s env sig h k =
    given_then RowsClosed IsClosedEnv (matching sc at s env sig) _ (matching_closed sc at s env sig h)
    (λ rows l. realised_closed (of_rows rows) (rows_put rows l) sig.env k)

-- ---- closed environments of well made types are of each state

tree_in : (s : State) (x : Tree) → IsFirm x → TyIn Any s (seen Ty.Var x)
tree_in s x h = record {
  below = within_firm (Below s.next) (λ i. unit_ty) Ty.Var x h (λ i. unit_within (Below s.next));
  within = λ n e. tt;
}

module _ (q : Nodes) (s : State) where
  scheme_in : (σ : TypeScheme) → SchemeOf q σ → IsClosedScheme σ → SchemeIn Any s σ
  scheme_in σ h k = record { closed = h.closed; body = tree_in s σ.body (free_none σ.body k) }

  cons_in : (cons : List ConEntry) → AllItems (ConHas (SchemeOf q)) cons → AllItems (ConHas IsClosedScheme) cons
      → AllItems (ConHas (SchemeIn Any s)) cons
  cons_in [] h k = tt
  cons_in (con ∷ cons) h k = (scheme_in con.scheme h.0 k.0, cons_in cons h.1 k.1)

  types_in : (ts : Table TypeStr) → AllRows (TypeHas (SchemeOf q) (FunctionOf q)) ts
      → AllRows (TypeHas IsClosedScheme IsClosedFunction) ts
      → AllRows (TypeHas (SchemeIn Any s) (FunctionIn Any s)) ts
  types_in [] h k = tt
  types_in (row ∷ rows) h k = (
    (tree_in s row.1.function.body (free_none row.1.function.body k.0.0), cons_in row.1.cons h.0.1 k.0.1),
    types_in rows h.1 k.1,
  )

  values_in : (vs : Table ValueEntry) → AllRows (ValueHas (SchemeOf q)) vs → AllRows (ValueHas IsClosedScheme) vs
      → AllRows (ValueHas (SchemeIn Any s)) vs
  values_in [] h k = tt
  values_in (row ∷ rows) h k = (scheme_in row.1.scheme h.0 k.0, values_in rows h.1 k.1)

  mutual
    pub env_in : (env : Env) → EnvOf q env → IsClosedEnv env → EnvIn Any s env
    env_in (Env.MakeEnv ss ts vs) h k = (structures_in ss h.0 k.0, types_in ts h.1 k.1, values_in vs h.2 k.2)

    structures_in : (ss : Structures) → StructuresHave (SchemeOf q) (FunctionOf q) ss
        → StructuresHave IsClosedScheme IsClosedFunction ss → StructuresHave (SchemeIn Any s) (FunctionIn Any s) ss
    structures_in Structures.Nil h k = tt
    structures_in (Structures.Cons name env rest) h k = (env_in env h.0 k.0, structures_in rest h.1 k.1)

-- ---- an environment with one more structure

pub structure_in : (s : State) (name : List ℕ) (x env : Env) → EnvIn Any s x → EnvIn Any s env
    → EnvIn Any s (with_structure name x env)
structure_in s name x env h k =
    let S : TypeScheme → Type 0 = SchemeIn Any s in
    let F : TypeFn → Type 0 = FunctionIn Any s in (
      table_structures S F (with_entry name x (structures env))
          (rows_with (EnvIn Any s) name x (structures env) h (has_structures S F env k)),
      has_types S F env k,
      has_values S F env k,
    )

firm_structures : (rows : Table Env) → RowsWith AnyName FirmEnv rows
    → StructuresWith AnyName FirmType FirmValue (structures_of rows)
firm_structures [] h = tt
firm_structures (row ∷ rows) h = (h.0, h.1, firm_structures rows h.2)

pub structure_firm : (name : List ℕ) (x env : Env) → FirmEnv x → FirmEnv env → FirmEnv (with_structure name x env)
structure_firm name x env h k = (
  firm_structures (with_entry name x (structures env))
      (Rattle.inference_laws.proofs.EnvsWith.rows_with AnyName FirmEnv name x (structures env) tt h
      (env_structures AnyName FirmType FirmValue env k)),
  env_types AnyName FirmType FirmValue env k,
  env_values AnyName FirmType FirmValue env k,
)
