-- What holds of every scheme and type function of environments holds of what is made of them, and of what is found.
use Rattle.std.proofs.Common.{ℕ, List, [], ◌∷◌, ◌++◌, Option, Some, None, Bool, true, false, cond}
use Rattle.std.specs.Prelude.{Ok, Err}
use Rattle.std.specs.FinMap.Entries.{by_order}
use Rattle.std.specs.Ordering.{eq_by_cmp}
use Rattle.std.specs.declared.cmp.Ordering.{Ordering}
use Rattle.std.specs.declared.cmp.Ordering.TheVariants as ordering
use Rattle.sml_trees.specs.declared.name.At.{At}
use Rattle.sml_trees.specs.declared.name.LongName.{LongName}
use Rattle.semantic_objects.specs.declared.entry.TypeFn.{TypeFn}
use Rattle.semantic_objects.specs.declared.entry.TypeStr.{TypeStr}
use Rattle.semantic_objects.specs.declared.entry.ValueEntry.{ValueEntry}
use Rattle.semantic_objects.specs.Tables.{Table, by_bytes, entry, with_entry, with_all}
use Rattle.semantic_objects.specs.Trees.{TypeScheme}
use Rattle.semantic_objects.specs.Environments.{Env, Structures, table_of, structures_of, structures, types, values, empty_env, with_type, with_value, modified_by}
use Rattle.static_semantics.specs.Inferring.{Scope, Answer, ◌>>=◌, refuses_where, known, found_at, found_in_structure}
use Rattle.static_semantics.specs.Holding.{Given, IfSome, AllItems, AllRows, ConHas, TypeHas, ValueHas, EnvHas, StructuresHave}

-- ---- answers

pub given_then : {A B : Type 0} (R : A → Type 0) (Q : B → Type 0) (m : Answer A) (next : A → Answer B) → Given R m
    → ((x : A) → R x → Given Q (next x)) → Given Q (m >>= next)
given_then R Q None next h k = tt
given_then R Q (Some (Err d)) next h k = tt
given_then R Q (Some (Ok x)) next h k = k x h

-- a check on the way
pub given_where : {B : Type 0} (Q : B → Type 0) (c : Bool) (number : ℕ) (sc : Scope) (at : At)
    (next : Unit {0} → Answer B) → Given Q (next tt) → Given Q (refuses_where c number sc at >>= next)
given_where Q true number sc at next h = tt
given_where Q false number sc at next h = h

pub given_known : {A : Type 0} (R : A → Type 0) (sc : Scope) (long : LongName) (o : Option A) → IfSome R o
    → Given R (known sc long o)
given_known R sc long None h = tt
given_known R sc long (Some x) h = h

-- ---- tables

ordered : {A : Type 0} (R : A → Type 0) (o : Ordering) (a b c : Table A) → AllRows R a → AllRows R b → AllRows R c
    → AllRows R (by_order o a b c)
ordered R ordering.Less a b c h k l = h
ordered R ordering.Equal a b c h k l = k
ordered R ordering.Greater a b c h k l = l

pub rows_with : {A : Type 0} (R : A → Type 0) (name : List ℕ) (x : A) (rows : Table A) → R x → AllRows R rows
    → AllRows R (with_entry name x rows)
rows_with R name x [] h k = (h, tt)
rows_with R name x (row ∷ rows) h k = ordered R (by_bytes name row.0) ((name, x) ∷ row ∷ rows) ((row.0, x) ∷ rows)
    (row ∷ with_entry name x rows) (h, k) (h, k.1) (k.0, rows_with R name x rows h k.1)

pub rows_with_all : {A : Type 0} (R : A → Type 0) (rows table : Table A) → AllRows R rows → AllRows R table
    → AllRows R (with_all rows table)
rows_with_all R [] table h k = k
rows_with_all R (row ∷ rows) table h k = rows_with_all R rows (with_entry row.0 row.1 table) h.1
    (rows_with R row.0 row.1 table h.0 k)

tied_or : {A : Type 0} (R : A → Type 0) (c : Bool) (x : A) (rest : Option A) → R x → IfSome R rest
    → IfSome R (cond c (Some x) rest)
tied_or R true x rest h k = h
tied_or R false x rest h k = k

pub rows_found : {A : Type 0} (R : A → Type 0) (name : List ℕ) (rows : Table A) → AllRows R rows
    → IfSome R (entry name rows)
rows_found R name [] h = tt
rows_found R name (row ∷ rows) h = tied_or R (eq_by_cmp by_bytes name row.0) row.1 (entry name rows) h.0
    (rows_found R name rows h.1)

pub rows_more : {A : Type 0} (R Q : A → Type 0) (rows : Table A) → ((x : A) → R x → Q x) → AllRows R rows
    → AllRows Q rows
rows_more R Q [] f h = tt
rows_more R Q (row ∷ rows) f h = (f row.1 h.0, rows_more R Q rows f h.1)

pub rows_after : {A : Type 0} (R : A → Type 0) (first second : Table A) → AllRows R first → AllRows R second
    → AllRows R (first ++ second)
rows_after R [] second h k = k
rows_after R (row ∷ rows) second h k = (h.0, rows_after R rows second h.1 k)

pub items_more : {A : Type 0} (R Q : A → Type 0) (xs : List A) → ((x : A) → R x → Q x) → AllItems R xs → AllItems Q xs
items_more R Q [] f h = tt
items_more R Q (x ∷ xs) f h = (f x h.0, items_more R Q xs f h.1)

-- ---- environments

module _ (S : TypeScheme → Type 0) (F : TypeFn → Type 0) where
  pub structures_table : (ss : Structures) → StructuresHave S F ss → AllRows (EnvHas S F) (table_of ss)
  structures_table Structures.Nil h = tt
  structures_table (Structures.Cons name env rest) h = (h.0, structures_table rest h.1)

  pub table_structures : (rows : Table Env) → AllRows (EnvHas S F) rows → StructuresHave S F (structures_of rows)
  table_structures [] h = tt
  table_structures (row ∷ rows) h = (h.0, table_structures rows h.1)

  pub has_structures : (env : Env) → EnvHas S F env → AllRows (EnvHas S F) (structures env)
  has_structures (Env.MakeEnv ss ts vs) h = structures_table ss h.0

  pub has_types : (env : Env) → EnvHas S F env → AllRows (TypeHas S F) (types env)
  has_types (Env.MakeEnv ss ts vs) h = h.1

  pub has_values : (env : Env) → EnvHas S F env → AllRows (ValueHas S) (values env)
  has_values (Env.MakeEnv ss ts vs) h = h.2

  pub has_nothing : EnvHas S F empty_env
  has_nothing = (tt, tt, tt)

  pub has_with_type : (name : List ℕ) (str : TypeStr) (env : Env) → TypeHas S F str → EnvHas S F env
      → EnvHas S F (with_type name str env)
  has_with_type name str env h k = (
    table_structures (structures env) (has_structures env k),
    rows_with (TypeHas S F) name str (types env) h (has_types env k),
    has_values env k,
  )

  pub has_with_value : (name : List ℕ) (value : ValueEntry) (env : Env) → S value.scheme → EnvHas S F env
      → EnvHas S F (with_value name value env)
  has_with_value name value env h k = (
    table_structures (structures env) (has_structures env k),
    has_types env k,
    rows_with (ValueHas S) name value (values env) h (has_values env k),
  )

  pub has_modified : (env by : Env) → EnvHas S F env → EnvHas S F by → EnvHas S F (modified_by env by)
  has_modified env by h k = (
    table_structures (with_all (structures by) (structures env))
        (rows_with_all (EnvHas S F) (structures by) (structures env) (has_structures by k) (has_structures env h)),
    rows_with_all (TypeHas S F) (types by) (types env) (has_types by k) (has_types env h),
    rows_with_all (ValueHas S) (values by) (values env) (has_values by k) (has_values env h),
  )

-- what is found under a long name, in the tables of one kind
in_structure : {A : Type 0} (E : Env → Type 0) (R : A → Type 0) (o : Option Env) (find : Env → Option A) → IfSome E o
    → ((env : Env) → E env → IfSome R (find env)) → IfSome R (found_in_structure o find)
in_structure E R None find h k = tt
in_structure E R (Some env) find h k = k env h

pub has_found : {A : Type 0} (S : TypeScheme → Type 0) (F : TypeFn → Type 0) (R : A → Type 0) (table : Env → Table A)
    → ((env : Env) → EnvHas S F env → AllRows R (table env)) → (parts : List (List ℕ)) (env : Env) → EnvHas S F env
    → IfSome R (found_at table parts env)
has_found S F R table k [] env h = tt
has_found S F R table k (name ∷ []) env h = rows_found R name (table env) (k env h)
has_found S F R table k (name ∷ next ∷ rest) env h = in_structure (EnvHas S F) R (entry name (structures env))
    (found_at table (next ∷ rest)) (rows_found (EnvHas S F) name (structures env) (has_structures S F env h))
    (λ inner i. has_found S F R table k (next ∷ rest) inner i)

-- what is weaker holds too
module _ (S U : TypeScheme → Type 0) (F G : TypeFn → Type 0) (f : (σ : TypeScheme) → S σ → U σ)
    (g : (function : TypeFn) → F function → G function) where
  pub type_more : (str : TypeStr) → TypeHas S F str → TypeHas U G str
  type_more str h = (g str.function h.0, items_more (ConHas S) (ConHas U) str.cons (λ con i. f con.scheme i) h.1)

  mutual
    pub env_more : (env : Env) → EnvHas S F env → EnvHas U G env
    env_more (Env.MakeEnv ss ts vs) h = (
      structures_more ss h.0,
      rows_more (TypeHas S F) (TypeHas U G) ts type_more h.1,
      rows_more (ValueHas S) (ValueHas U) vs (λ value i. f value.scheme i) h.2,
    )

    pub structures_more : (ss : Structures) → StructuresHave S F ss → StructuresHave U G ss
    structures_more Structures.Nil h = tt
    structures_more (Structures.Cons name env rest) h = (env_more env h.0, structures_more rest h.1)
