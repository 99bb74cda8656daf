-- Tables that rise, of which others are made, and environments of such tables.
use Rattle.std.proofs.Common.{◌≡◌, ℕ, List, [], ◌∷◌, sym, subst, ap, refl, Option, Some, None}
use Rattle.semantic_objects.specs.declared.entry.TypeStr.{TypeStr}
use Rattle.semantic_objects.specs.declared.entry.ValueEntry.{ValueEntry}
use Rattle.semantic_objects.specs.Tables.{Table, IsTable, entry, with_entry, with_all}
use Rattle.semantic_objects.specs.Environments.{Env, Structures, table_of, structures_of, structures, types, values, empty_env, with_structure, with_type, with_value, modified_by}
use Rattle.semantic_objects.proofs.Promised.{sets_entries}
use Rattle.static_semantics.specs.Inferring.{found_at, found_in_structure}
use Rattle.static_semantics.specs.Holding.{IfSome, AllRows}
use Rattle.static_semantics.proofs.Holding.{rows_with, rows_with_all, rows_found}
use Rattle.table_laws.specs.Rising.{TableWith, RisingType, RisingEnv, RisingStructures}

-- ---- tables

pub table_with : {A : Type 0} (R : A → Type 0) (name : List ℕ) (x : A) (table : Table A) → R x → TableWith R table
    → TableWith R (with_entry name x table)
table_with {A} R name x table h k =
    ((sets_entries A).kept name x table k.0, rows_with R name x table h k.1)

pub all_kept : {A : Type 0} (rows table : Table A) → IsTable table → IsTable (with_all rows table)
all_kept [] table h = h
all_kept {A} (row ∷ rows) table h =
    all_kept rows (with_entry row.0 row.1 table) ((sets_entries A).kept row.0 row.1 table h)

pub table_with_all : {A : Type 0} (R : A → Type 0) (rows table : Table A) → TableWith R rows → TableWith R table
    → TableWith R (with_all rows table)
table_with_all R rows table h k = (all_kept rows table k.0, rows_with_all R rows table h.1 k.1)

-- ---- environments

parts_table : (ss : Structures) → RisingStructures ss → AllRows RisingEnv (table_of ss)
parts_table Structures.Nil h = tt
parts_table (Structures.Cons name env rest) h = (h.0, parts_table rest h.1)

table_parts : (rows : Table Env) → AllRows RisingEnv rows → RisingStructures (structures_of rows)
table_parts [] h = tt
table_parts (row ∷ rows) h = (h.0, table_parts rows h.1)

back : (rows : Table Env) → table_of (structures_of rows) ≡ rows
back [] = refl
back (row ∷ rows) = ap (λ z. row ∷ z) (back rows)

pub rising_structures : (env : Env) → RisingEnv env → TableWith RisingEnv (structures env)
rising_structures (Env.MakeEnv ss ts vs) h = (h.0, parts_table ss h.1)

pub rising_types : (env : Env) → RisingEnv env → TableWith RisingType (types env)
rising_types (Env.MakeEnv ss ts vs) h = h.2

pub rising_values : (env : Env) → RisingEnv env → IsTable (values env)
rising_values (Env.MakeEnv ss ts vs) h = h.3

-- of three tables
pub rising_of : (ss : Table Env) (ts : Table TypeStr) (vs : Table ValueEntry) → TableWith RisingEnv ss
    → TableWith RisingType ts → IsTable vs → RisingEnv (Env.MakeEnv (structures_of ss) ts vs)
rising_of ss ts vs h k l = (subst IsTable (sym (back ss)) h.0, table_parts ss h.1, k, l)

pub rising_nothing : RisingEnv empty_env
rising_nothing = (refl, tt, (refl, tt), refl)

pub rising_with_structure : (name : List ℕ) (x env : Env) → RisingEnv x → RisingEnv env
    → RisingEnv (with_structure name x env)
rising_with_structure name x env h k = rising_of (with_entry name x (structures env)) (types env) (values env)
    (table_with RisingEnv name x (structures env) h (rising_structures env k)) (rising_types env k)
    (rising_values env k)

pub rising_with_type : (name : List ℕ) (str : TypeStr) (env : Env) → RisingType str → RisingEnv env
    → RisingEnv (with_type name str env)
rising_with_type name str env h k = rising_of (structures env) (with_entry name str (types env)) (values env)
    (rising_structures env k) (table_with RisingType name str (types env) h (rising_types env k))
    (rising_values env k)

pub rising_with_value : (name : List ℕ) (value : ValueEntry) (env : Env) → RisingEnv env
    → RisingEnv (with_value name value env)
rising_with_value name value env k = rising_of (structures env) (types env) (with_entry name value (values env))
    (rising_structures env k) (rising_types env k)
    ((sets_entries ValueEntry).kept name value (values env) (rising_values env k))

pub rising_modified : (env by : Env) → RisingEnv env → RisingEnv by → RisingEnv (modified_by env by)
rising_modified env by h k = rising_of (with_all (structures by) (structures env)) (with_all (types by) (types env))
    (with_all (values by) (values env))
    (table_with_all RisingEnv (structures by) (structures env) (rising_structures by k) (rising_structures env h))
    (table_with_all RisingType (types by) (types env) (rising_types by k) (rising_types env h))
    (all_kept (values by) (values env) (rising_values env h))

-- ---- what is found

in_structure : {A : Type 0} (R : A → Type 0) (o : Option Env) (find : Env → Option A) → IfSome RisingEnv o
    → ((env : Env) → RisingEnv env → IfSome R (find env)) → IfSome R (found_in_structure o find)
in_structure R None find h k = tt
in_structure R (Some env) find h k = k env h

rising_found : {A : Type 0} (R : A → Type 0) (table : Env → Table A)
    → ((env : Env) → RisingEnv env → TableWith R (table env)) → (parts : List (List ℕ)) (env : Env) → RisingEnv env
    → IfSome R (found_at table parts env)
rising_found R table k [] env h = tt
rising_found R table k (name ∷ []) env h = rows_found R name (table env) (k env h).1
rising_found R table k (name ∷ next ∷ rest) env h = in_structure R (entry name (structures env))
    (found_at table (next ∷ rest)) (rows_found RisingEnv name (structures env) (rising_structures env h).1)
    (λ inner i. rising_found R table k (next ∷ rest) inner i)

pub type_found : (parts : List (List ℕ)) (env : Env) → RisingEnv env → IfSome RisingType (found_at types parts env)
type_found = rising_found RisingType types rising_types

pub structure_found : (parts : List (List ℕ)) (env : Env) → RisingEnv env
    → IfSome RisingEnv (found_at structures parts env)
structure_found = rising_found RisingEnv structures rising_structures
