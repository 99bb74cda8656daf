-- An environment that is modified by the same entries again stays as it is.
use Rattle.std.proofs.Common.{◌≡◌, ℕ, refl, sym, ap, ap₂, ◌∙◌, subst, List, [], ◌∷◌, Option, Some, None}
use lib.Dec.{T}
use Rattle.std.specs.Cmp.Lexicographic.{nat_list_cmp_total}
use Rattle.std.specs.FinMap.{nat_cmp-IsAntisymmetric, slice_cmp-IsAntisymmetric}
use Rattle.std.specs.FinMap.Entries.{is_sorted, same_entries}
use Rattle.semantic_objects.specs.declared.entry.TypeStr.{TypeStr}
use Rattle.semantic_objects.specs.declared.entry.ValueEntry.{ValueEntry}
use Rattle.semantic_objects.specs.Tables.{Table, IsTable, by_bytes, entry, with_all}
use Rattle.semantic_objects.specs.Environments.{Env, env_of, structures, types, values, table_of, structures_of, empty_env, modified_by}
use Rattle.semantic_objects.proofs.Promised.{sets_entries, keeps_structures}
use Rattle.sml_modules.specs.Items.{map_rows}
use Rattle.sml_modules.specs.Graphs.{Graph, env_at}
use Rattle.name_trails.specs.Trails.{last_entry}
use Rattle.core_scopes.proofs.Tables.{or_held, entry_under, all_at_once}
use Rattle.signature_specs.specs.declared.specified.Specified.{Specified}
use Rattle.signature_specs.specs.Specs.{env_so_far}
use Rattle.signature_specs.proofs.Specifying.{tables_back}

true_so : {A : Type 0} (t : Table A) → IsTable t → T (is_sorted by_bytes t)
true_so t h = subst T (sym h) tt

one_table : {A : Type 0} (a b : Table A) → IsTable a → IsTable b → ((n : List ℕ) → entry n a ≡ entry n b) → a ≡ b
one_table a b h k f = same_entries by_bytes nat_list_cmp_total
    (λ m n e. slice_cmp-IsAntisymmetric nat_cmp-IsAntisymmetric m n e) a b (true_so a h) (true_so b k) f

all_kept : {A : Type 0} (rows t : Table A) → IsTable t → IsTable (with_all rows t)
all_kept [] t h = h
all_kept {A} (row ∷ rows) t h = all_kept rows _ ((sets_entries A).kept row.0 row.1 t h)

held_again : {A : Type 0} (o p : Option A) → or_held o (or_held o p) ≡ or_held o p
held_again None p = refl
held_again (Some x) p = refl

-- rows that were set are set again
rows_again : {A : Type 0} (rows : Table A) → with_all (with_all rows []) (with_all rows []) ≡ with_all rows []
rows_again {A} rows =
    all_at_once rows [] (with_all rows []) refl
    ∙ one_table (with_all rows (with_all rows [])) (with_all rows [])
    (all_kept rows (with_all rows []) (all_kept rows [] refl)) (all_kept rows [] refl) (λ n.
    entry_under rows (with_all rows []) n
    ∙ ap (λ (o : Option A). or_held (last_entry rows n) o) (entry_under rows [] n)
    ∙ held_again (last_entry rows n) None
    ∙ sym (entry_under rows [] n))

pub all_again : {A : Type 0} (rows t : Table A)
    → with_all (with_all rows []) (with_all (with_all rows []) t) ≡ with_all (with_all rows []) t
all_again {A} rows t =
    sym (all_at_once (with_all rows []) (with_all rows []) t (all_kept rows [] refl))
    ∙ ap (λ (z : Table A). with_all z t) (rows_again rows)

env_is : (ss us : Table Env) (ts xs : Table TypeStr) (vs ys : Table ValueEntry) → ss ≡ us → ts ≡ xs → vs ≡ ys
    → env_of ss ts vs ≡ env_of us xs ys
env_is ss us ts xs vs ys h k l = cc

structures_again : (rows over : Table Env)
    → with_all (table_of (structures_of (with_all rows [])))
    (table_of (structures_of (with_all (table_of (structures_of (with_all rows []))) over)))
    ≡ with_all (table_of (structures_of (with_all rows []))) over
structures_again rows over =
    ap₂ (λ (a b : Table Env). with_all a b) (tables_back (with_all rows []))
    (tables_back (with_all (table_of (structures_of (with_all rows []))) over)
    ∙ ap (λ (z : Table Env). with_all z over) (tables_back (with_all rows [])))
    ∙ all_again rows over
    ∙ ap (λ (z : Table Env). with_all z over) (sym (tables_back (with_all rows [])))

-- what is specified so far, over an environment
pub specified_again : (g : Graph) (made : Specified) (env : Env)
    → modified_by (modified_by env (env_so_far g made)) (env_so_far g made) ≡ modified_by env (env_so_far g made)
specified_again g made env =
    env_is _ _ _ _ _ _ (structures_again (map_rows (env_at g) made.structures) (structures env))
    (all_again made.types (types env)) (all_again made.values (values env))

-- nothing, over an environment
pub with_nothing : (env : Env) → modified_by env empty_env ≡ env
with_nothing (Env.MakeEnv ss ts vs) = ap (λ z. Env.MakeEnv z ts vs) (keeps_structures.parts ss)
