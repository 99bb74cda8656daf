-- What holds of all names and entries of environments holds of what is made of them, and of what is found.
use Rattle.std.proofs.Common.{ℕ, zero, suc, List, [], ◌∷◌, ◌++◌, drop, Option, Some, None, Bool, true, false, cond}
use Rattle.std.specs.FinMap.Entries.{by_order}
use Rattle.std.specs.declared.cmp.Ordering.{Ordering}
use Rattle.std.specs.declared.cmp.Ordering.TheVariants as ordering
use Rattle.std.specs.Ordering.{eq_by_cmp}
use Rattle.semantic_objects.specs.declared.entry.TypeStr.{TypeStr}
use Rattle.semantic_objects.specs.declared.entry.ValueEntry.{ValueEntry}
use Rattle.semantic_objects.specs.Tables.{Table, by_bytes, entry, with_entry, with_all}
use Rattle.semantic_objects.specs.Environments.{Env, Structures, table_of, structures_of, structures, types, values, empty_env, with_type, with_value, modified_by}
use Rattle.static_semantics.specs.Inferring.{found_at, found_in_structure}
use Rattle.static_semantics.specs.Holding.{IfSome, AllItems}
use Rattle.inference_laws.specs.Naming.{RowsWith, EnvWith, StructuresWith}

-- ---- tables

module _ {A : Type 0} (N : List ℕ → Type 0) (R : A → Type 0) where
  with_order : (o : Ordering) (a b c : Table A) → RowsWith N R a → RowsWith N R b → RowsWith N R c
      → RowsWith N R (by_order o a b c)
  with_order ordering.Less a b c h k l = h
  with_order ordering.Equal a b c h k l = k
  with_order ordering.Greater a b c h k l = l

  pub rows_with : (name : List ℕ) (x : A) (rows : Table A) → N name → R x → RowsWith N R rows
      → RowsWith N R (with_entry name x rows)
  rows_with name x [] h k l = (h, k, tt)
  rows_with name x (row ∷ rows) h k l =
      with_order (by_bytes name row.0) ((name, x) ∷ row ∷ rows) ((row.0, x) ∷ rows) (row ∷ with_entry name x rows)
      (h, k, l) (l.0, k, l.2) (l.0, l.1, rows_with name x rows h k l.2)

  pub rows_with_all : (rows table : Table A) → RowsWith N R rows → RowsWith N R table
      → RowsWith N R (with_all rows table)
  rows_with_all [] table h k = k
  rows_with_all (row ∷ rows) table h k = rows_with_all rows (with_entry row.0 row.1 table) h.2
      (rows_with row.0 row.1 table h.0 h.1 k)

  found_or : (c : Bool) (x : A) (o : Option A) → R x → IfSome R o → IfSome R (cond c (Some x) o)
  found_or true x o h k = h
  found_or false x o h k = k

  pub rows_found : (name : List ℕ) (rows : Table A) → RowsWith N R rows → IfSome R (entry name rows)
  rows_found name [] h = tt
  rows_found name (row ∷ rows) h = found_or (eq_by_cmp by_bytes name row.0) row.1 (entry name rows) h.1
      (rows_found name rows h.2)

  pub rows_after : (first second : Table A) → RowsWith N R first → RowsWith N R second
      → RowsWith N R (first ++ second)
  rows_after [] second h k = k
  rows_after (row ∷ rows) second h k = (h.0, h.1, rows_after rows second h.2 k)

  pub rows_drop : (n : ℕ) (rows : Table A) → RowsWith N R rows → RowsWith N R (drop n rows)
  rows_drop zero rows h = h
  rows_drop (suc n) [] h = tt
  rows_drop (suc n) (row ∷ rows) h = rows_drop n rows h.2

pub items_after : {A : Type 0} (R : A → Type 0) (first second : List A) → AllItems R first → AllItems R second
    → AllItems R (first ++ second)
items_after R [] second h k = k
items_after R (x ∷ xs) second h k = (h.0, items_after R xs second h.1 k)

-- ---- environments

module _ (N : List ℕ → Type 0) (T : TypeStr → Type 0) (V : ValueEntry → Type 0) where
  with_table : (ss : Structures) → StructuresWith N T V ss → RowsWith N (EnvWith N T V) (table_of ss)
  with_table Structures.Nil h = tt
  with_table (Structures.Cons name env rest) h = (h.0, h.1, with_table rest h.2)

  with_parts : (rows : Table Env) → RowsWith N (EnvWith N T V) rows → StructuresWith N T V (structures_of rows)
  with_parts [] h = tt
  with_parts (row ∷ rows) h = (h.0, h.1, with_parts rows h.2)

  pub env_structures : (env : Env) → EnvWith N T V env → RowsWith N (EnvWith N T V) (structures env)
  env_structures (Env.MakeEnv ss ts vs) h = with_table ss h.0

  pub env_types : (env : Env) → EnvWith N T V env → RowsWith N T (types env)
  env_types (Env.MakeEnv ss ts vs) h = h.1

  pub env_values : (env : Env) → EnvWith N T V env → RowsWith N V (values env)
  env_values (Env.MakeEnv ss ts vs) h = h.2

  pub env_nothing : EnvWith N T V empty_env
  env_nothing = (tt, tt, tt)

  pub env_with_type : (name : List ℕ) (str : TypeStr) (env : Env) → N name → T str → EnvWith N T V env
      → EnvWith N T V (with_type name str env)
  env_with_type name str env h k l = (
    with_parts (structures env) (env_structures env l),
    rows_with N T name str (types env) h k (env_types env l),
    env_values env l,
  )

  pub env_with_value : (name : List ℕ) (value : ValueEntry) (env : Env) → N name → V value → EnvWith N T V env
      → EnvWith N T V (with_value name value env)
  env_with_value name value env h k l = (
    with_parts (structures env) (env_structures env l),
    env_types env l,
    rows_with N V name value (values env) h k (env_values env l),
  )

  pub env_modified : (env by : Env) → EnvWith N T V env → EnvWith N T V by → EnvWith N T V (modified_by env by)
  env_modified env by h k = (
    with_parts (with_all (structures by) (structures env))
        (rows_with_all N (EnvWith N T V) (structures by) (structures env) (env_structures by k)
        (env_structures env h)),
    rows_with_all N T (types by) (types env) (env_types by k) (env_types env h),
    rows_with_all N V (values by) (values env) (env_values by k) (env_values env h),
  )

in_structure : {A : Type 0} (E : Env → Type 0) (R : A → Type 0) (o : Option Env) (find : Env → Option A) → IfSome E o
    → ((env : Env) → E env → IfSome R (find env)) → IfSome R (found_in_structure o find)
in_structure E R None find h k = tt
in_structure E R (Some env) find h k = k env h

pub env_found : {A : Type 0} (N : List ℕ → Type 0) (T : TypeStr → Type 0) (V : ValueEntry → Type 0) (R : A → Type 0)
    (table : Env → Table A) → ((env : Env) → EnvWith N T V env → RowsWith N R (table env)) → (parts : List (List ℕ))
    (env : Env) → EnvWith N T V env → IfSome R (found_at table parts env)
env_found N T V R table k [] env h = tt
env_found N T V R table k (name ∷ []) env h = rows_found N R name (table env) (k env h)
env_found N T V R table k (name ∷ next ∷ rest) env h = in_structure (EnvWith N T V) R (entry name (structures env))
    (found_at table (next ∷ rest)) (rows_found N (EnvWith N T V) name (structures env) (env_structures N T V env h))
    (λ inner i. env_found N T V R table k (next ∷ rest) inner i)
