-- Look-ups in environments and tables with types put in.
use Rattle.std.proofs.Common.{◌≡◌, ℕ, List, [], ◌∷◌, ◌++◌, map, refl, sym, ap, ap₂, ◌∙◌, Option, Some, None, Bool, true, false, ◌&&◌, not, cond}
use Rattle.std.specs.Option.{option_map, is_some}
use Rattle.std.specs.FinMap.Entries.{by_order}
use Rattle.std.specs.Ordering.{eq_by_cmp}
use Rattle.std.specs.declared.cmp.Ordering.{Ordering}
use Rattle.std.specs.declared.cmp.Ordering.TheVariants as ordering
use Rattle.semantic_objects.specs.declared.entry.TypeStr.{TypeStr}
use Rattle.semantic_objects.specs.declared.entry.ValueEntry.{ValueEntry}
use Rattle.semantic_objects.specs.Symbols.{same_text}
use Rattle.semantic_objects.specs.Tables.{Table, by_bytes, names_of, entry, with_entry, with_all}
use Rattle.semantic_objects.specs.Environments.{Env, Structures, table_of, structures_of, structures, types, values, with_type, with_value, modified_by}
use Rattle.semantic_objects.specs.declared.symbol.Symbol.TheVariants as symbol
use Rattle.unification.specs.Types.{Ty, Types, Substitution, put, put_all}
use Rattle.static_semantics.specs.BasicTypes.{types_of, record_ty}
use Rattle.static_semantics.specs.Inferring.{Scope, under, found_at, found_in_structure, named, is_named, stands_for_con, Bound, variable_entry, with_bound, under_bound}
use Rattle.static_semantics.specs.EnvironmentsPut.{put_type, put_value, each_entry, put_env, put_structures, put_rows, put_scope}
use Rattle.static_semantics.specs.RuleConditions.{are_distinct}
use Rattle.inference_laws.specs.Alike.{in_env}
use Rattle.inference_laws.proofs.SeenLater.{put_closed}

-- ---- tables

mapped_where : {A : Type 0} (f : A → A) (c : Bool) (x : A) (o p : Option A) → o ≡ option_map f p
    → cond c (Some (f x)) o ≡ option_map f (cond c (Some x) p)
mapped_where f true x o p h = refl
mapped_where f false x o p h = h

pub entry_put : {A : Type 0} (f : A → A) (name : List ℕ) (rows : Table A)
    → entry name (each_entry f rows) ≡ option_map f (entry name rows)
entry_put f name [] = refl
entry_put f name (row ∷ rows) = mapped_where f (eq_by_cmp by_bytes name row.0) row.1 (entry name (each_entry f rows))
    (entry name rows) (entry_put f name rows)

ordered_put : {A : Type 0} (f : A → A) (o : Ordering) (a b c d e g : Table A) → d ≡ each_entry f a
    → e ≡ each_entry f b → g ≡ each_entry f c → by_order o d e g ≡ each_entry f (by_order o a b c)
ordered_put f ordering.Less a b c d e g h k l = h
ordered_put f ordering.Equal a b c d e g h k l = k
ordered_put f ordering.Greater a b c d e g h k l = l

pub with_entry_put : {A : Type 0} (f : A → A) (name : List ℕ) (x : A) (rows : Table A)
    → with_entry name (f x) (each_entry f rows) ≡ each_entry f (with_entry name x rows)
with_entry_put f name x [] = refl
with_entry_put f name x (row ∷ rows) = ordered_put f (by_bytes name row.0) ((name, x) ∷ row ∷ rows)
    ((row.0, x) ∷ rows) (row ∷ with_entry name x rows) ((name, f x) ∷ each_entry f (row ∷ rows))
    ((row.0, f x) ∷ each_entry f rows) ((row.0, f row.1) ∷ with_entry name (f x) (each_entry f rows)) refl refl
    (ap (λ z. (row.0, f row.1) ∷ z) (with_entry_put f name x rows))

pub with_all_put : {A : Type 0} (f : A → A) (rows table : Table A)
    → with_all (each_entry f rows) (each_entry f table) ≡ each_entry f (with_all rows table)
with_all_put f [] table = refl
with_all_put f (row ∷ rows) table = ap (with_all (each_entry f rows)) (with_entry_put f row.0 row.1 table)
    ∙ with_all_put f rows (with_entry row.0 row.1 table)

pub no_entry_put : {A : Type 0} (f : A → A) (name : List ℕ) (rows : Table A) → entry name rows ≡ None
    → entry name (each_entry f rows) ≡ None
no_entry_put f name rows h = entry_put f name rows ∙ ap (option_map f) h

pub rows_after_put : (s : Substitution) (first second : Bound)
    → put_rows s (first ++ second) ≡ put_rows s first ++ put_rows s second
rows_after_put s [] second = refl
rows_after_put s (row ∷ rows) second = ap (λ z. (row.0, put s row.1) ∷ z) (rows_after_put s rows second)

pub named_put : (s : Substitution) (name : List ℕ) (rows : List (List ℕ × Ty))
    → named name (put_rows s rows) ≡ option_map (put s) (named name rows)
named_put s name [] = refl
named_put s name (row ∷ rows) = mapped_where (put s) (same_text name row.0) row.1 (named name (put_rows s rows))
    (named name rows) (named_put s name rows)

some_mapped : {A B : Type 0} (f : A → B) (o : Option A) → is_some (option_map f o) ≡ is_some o
some_mapped f None = refl
some_mapped f (Some x) = refl

pub is_named_put : (s : Substitution) (name : List ℕ) (rows : Bound) → is_named name (put_rows s rows) ≡ is_named name rows
is_named_put s name rows = ap is_some (named_put s name rows) ∙ some_mapped (put s) (named name rows)

pub distinct_put : (s : Substitution) (rows : Bound) → are_distinct (put_rows s rows) ≡ are_distinct rows
distinct_put s [] = refl
distinct_put s (row ∷ rows) =
    ap₂ (λ a b. not a && b) (is_named_put s row.0 rows) (distinct_put s rows)

-- ---- environments

table_put : (s : Substitution) (ss : Structures) → table_of (put_structures s ss) ≡ each_entry (put_env s) (table_of ss)
table_put s Structures.Nil = refl
table_put s (Structures.Cons name env rest) = ap (λ z. (name, put_env s env) ∷ z) (table_put s rest)

structures_table_put : (s : Substitution) (rows : Table Env)
    → structures_of (each_entry (put_env s) rows) ≡ put_structures s (structures_of rows)
structures_table_put s [] = refl
structures_table_put s (row ∷ rows) = ap (Structures.Cons row.0 (put_env s row.1)) (structures_table_put s rows)

pub structures_put : (s : Substitution) (env : Env)
    → structures (put_env s env) ≡ each_entry (put_env s) (structures env)
structures_put s (Env.MakeEnv ss ts vs) = table_put s ss

pub types_put : (s : Substitution) (env : Env) → types (put_env s env) ≡ each_entry (put_type s) (types env)
types_put s (Env.MakeEnv ss ts vs) = refl

pub values_put : (s : Substitution) (env : Env) → values (put_env s env) ≡ each_entry (put_value s) (values env)
values_put s (Env.MakeEnv ss ts vs) = refl

in_structure_put : {A : Type 0} (s : Substitution) (f : A → A) (o : Option Env) (find : Env → Option A)
    → ((env : Env) → find (put_env s env) ≡ option_map f (find env))
    → found_in_structure (option_map (put_env s) o) find ≡ option_map f (found_in_structure o find)
in_structure_put s f None find h = refl
in_structure_put s f (Some env) find h = h env

pub found_put : {A : Type 0} (table : Env → Table A) (s : Substitution) (f : A → A)
    → ((env : Env) → table (put_env s env) ≡ each_entry f (table env)) → (parts : List (List ℕ)) (env : Env)
    → found_at table parts (put_env s env) ≡ option_map f (found_at table parts env)
found_put table s f h [] env = refl
found_put table s f h (name ∷ []) env = ap (entry name) (h env) ∙ entry_put f name (table env)
found_put table s f h (name ∷ next ∷ rest) env =
    ap (λ o. found_in_structure o (found_at table (next ∷ rest)))
    (ap (entry name) (structures_put s env) ∙ entry_put (put_env s) name (structures env))
    ∙ in_structure_put s f (entry name (structures env)) (found_at table (next ∷ rest))
    (λ inner. found_put table s f h (next ∷ rest) inner)

pub type_found_put : (s : Substitution) (parts : List (List ℕ)) (env : Env)
    → found_at types parts (put_env s env) ≡ option_map (put_type s) (found_at types parts env)
type_found_put s = found_put types s (put_type s) (types_put s)

pub value_found_put : (s : Substitution) (parts : List (List ℕ)) (env : Env)
    → found_at values parts (put_env s env) ≡ option_map (put_value s) (found_at values parts env)
value_found_put s = found_put values s (put_value s) (values_put s)

pub con_mapped : (s : Substitution) (o : Option ValueEntry) → stands_for_con (option_map (put_value s) o) ≡ stands_for_con o
con_mapped s None = refl
con_mapped s (Some value) = refl

-- the status of a name
pub con_put : (s : Substitution) (name : List ℕ) (env : Env)
    → stands_for_con (entry name (values (put_env s env))) ≡ stands_for_con (entry name (values env))
con_put s name env = ap stands_for_con (ap (entry name) (values_put s env) ∙ entry_put (put_value s) name (values env))
    ∙ con_mapped s (entry name (values env))

pub with_value_put : (s : Substitution) (name : List ℕ) (value : ValueEntry) (env : Env)
    → with_value name (put_value s value) (put_env s env) ≡ put_env s (with_value name value env)
with_value_put s name value (Env.MakeEnv ss ts vs) =
    ap₂ (λ rows us. Env.MakeEnv (structures_of rows) (each_entry (put_type s) ts) us) (table_put s ss)
    (with_entry_put (put_value s) name value vs)
    ∙ ap (λ z. Env.MakeEnv z (each_entry (put_type s) ts) (each_entry (put_value s) (with_entry name value vs)))
    (structures_table_put s (table_of ss))

pub with_type_put : (s : Substitution) (name : List ℕ) (str : TypeStr) (env : Env)
    → with_type name (put_type s str) (put_env s env) ≡ put_env s (with_type name str env)
with_type_put s name str (Env.MakeEnv ss ts vs) =
    ap₂ (λ rows us. Env.MakeEnv (structures_of rows) us (each_entry (put_value s) vs)) (table_put s ss)
    (with_entry_put (put_type s) name str ts)
    ∙ ap (λ z. Env.MakeEnv z (each_entry (put_type s) (with_entry name str ts)) (each_entry (put_value s) vs))
    (structures_table_put s (table_of ss))

pub modified_put : (s : Substitution) (env by : Env)
    → modified_by (put_env s env) (put_env s by) ≡ put_env s (modified_by env by)
modified_put s (Env.MakeEnv ss ts vs) (Env.MakeEnv rs us ws) =
    ap₂ (λ a b. Env.MakeEnv (structures_of (with_all a b)) (with_all (each_entry (put_type s) us)
    (each_entry (put_type s) ts)) (with_all (each_entry (put_value s) ws) (each_entry (put_value s) vs)))
    (table_put s rs) (table_put s ss)
    ∙ ap (λ a. Env.MakeEnv a (with_all (each_entry (put_type s) us) (each_entry (put_type s) ts))
    (with_all (each_entry (put_value s) ws) (each_entry (put_value s) vs)))
    (ap structures_of (with_all_put (put_env s) (table_of rs) (table_of ss))
    ∙ structures_table_put s (with_all (table_of rs) (table_of ss)))
    ∙ ap₂ (Env.MakeEnv (put_structures s (structures_of (with_all (table_of rs) (table_of ss)))))
    (with_all_put (put_type s) us ts) (with_all_put (put_value s) ws vs)

-- ---- scopes

pub under_put : (s : Substitution) (made : Env) (sc : Scope)
    → under (put_env s made) (put_scope s sc) ≡ put_scope s (under made sc)
under_put s made sc = ap (λ env. in_env env (put_scope s sc)) (modified_put s sc.env made)

entry_of_put : (s : Substitution) (ty : Ty) → variable_entry (put s ty) ≡ put_value s (variable_entry ty)
entry_of_put s ty = ap (λ x. (let value : ValueEntry = record {
  status = (variable_entry ty).status;
  scheme = record { marks = []; body = x };
} in value)) (sym (put_closed s ty))

with_bound_put : (s : Substitution) (rows : Bound) (env : Env)
    → with_bound (put_rows s rows) (put_env s env) ≡ put_env s (with_bound rows env)
with_bound_put s [] env = refl
with_bound_put s (row ∷ rows) env =
    ap (with_bound (put_rows s rows))
    (ap (λ z. with_value row.0 z (put_env s env)) (entry_of_put s row.1)
    ∙ with_value_put s row.0 (variable_entry row.1) env)
    ∙ with_bound_put s rows (with_value row.0 (variable_entry row.1) env)

pub under_bound_put : (s : Substitution) (rows : Bound) (sc : Scope)
    → under_bound (put_rows s rows) (put_scope s sc) ≡ put_scope s (under_bound rows sc)
under_bound_put s rows sc = ap (λ env. in_env env (put_scope s sc)) (with_bound_put s rows sc.env)

-- ---- records

names_put : (s : Substitution) (rows : Table Ty) → names_of (put_rows s rows) ≡ names_of rows
names_put s [] = refl
names_put s (row ∷ rows) = ap (λ z. row.0 ∷ z) (names_put s rows)

parts_put : (s : Substitution) (rows : Table Ty)
    → types_of (map (λ (row : List ℕ × Ty). row.1) (put_rows s rows))
    ≡ put_all s (types_of (map (λ (row : List ℕ × Ty). row.1) rows))
parts_put s [] = refl
parts_put s (row ∷ rows) = ap (Types.Cons (put s row.1)) (parts_put s rows)

pub record_put : (s : Substitution) (rows : Table Ty) → record_ty (put_rows s rows) ≡ put s (record_ty rows)
record_put s rows = ap₂ (λ names ts. Ty.Made (symbol.Record names) ts) (names_put s rows) (parts_put s rows)
