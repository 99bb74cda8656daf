-- The laws of symbols, tables and environments, as the public functions of this crate state them.
use Rattle.std.proofs.Common.{◌≡◌, ◌≢◌, ℕ, refl, sym, ap, ◌∙◌, subst, List, [], ◌∷◌, ◌++◌, Some, Bool, true, false, cond}
use Rattle.std.specs.Ordering.{is_eq}
use Rattle.std.specs.Cmp.{tied_itself}
use Rattle.std.specs.Cmp.Lexicographic.{nat_list_cmp_total}
use Rattle.std.specs.FinMap.{nat_cmp-IsAntisymmetric, slice_cmp-IsAntisymmetric}
use Rattle.std.specs.FinMap.Entries.{find-put, is_sorted, is_sorted-put}
use lib.Dec.{T}
use Rattle.std.specs.declared.cmp.Ordering.{Ordering}
use Rattle.std.specs.declared.cmp.Ordering.TheVariants.{Less, Equal, Greater}
use Rattle.semantic_objects.specs.Symbols.{same_symbol}
use Rattle.semantic_objects.specs.Tables.{Table, IsTable, by_bytes, entry, with_entry, with_all}
use Rattle.semantic_objects.specs.Environments.{Env, Structures, table_of, structures_of}
use Rattle.semantic_objects.specs.Promises.{ComparesSymbols, SetsEntries, KeepsStructures}
use Rattle.semantic_objects.proofs.Same.{symbol_is, symbol_same}

pub compares_symbols : ComparesSymbols
compares_symbols c d = (symbol_is c d, λ e. subst (λ z. same_symbol c z ≡ true) e (symbol_same c))

-- only one name ties with a name
not_tied : (m n : List ℕ) (o : Ordering) → by_bytes m n ≡ o → (n ≢ m) → is_eq o ≡ false
not_tied m n Less e h = refl
not_tied m n Equal e h = absurd (h (sym (slice_cmp-IsAntisymmetric nat_cmp-IsAntisymmetric m n e)))
not_tied m n Greater e h = refl

found_here : {A : Type 0} (n : List ℕ) (x : A) (t : Table A) → entry n (with_entry n x t) ≡ Some x
found_here n x t = find-put by_bytes nat_list_cmp_total n n x t
    ∙ ap (λ r. cond (is_eq r) (Some x) (entry n t)) (tied_itself nat_list_cmp_total n)

found_there : {A : Type 0} (n m : List ℕ) (x : A) (t : Table A) → (n ≢ m) → entry m (with_entry n x t) ≡ entry m t
found_there n m x t h = find-put by_bytes nat_list_cmp_total m n x t
    ∙ ap (λ b. cond b (Some x) (entry m t)) (not_tied m n (by_bytes m n) refl h)

last_counts : {A : Type 0} (n : List ℕ) (x : A) (rows t : Table A)
    → with_all (rows ++ (n, x) ∷ []) t ≡ with_entry n x (with_all rows t)
last_counts n x [] t = refl
last_counts n x (row ∷ rows) t = last_counts n x rows (with_entry row.0 row.1 t)

true_so : (b : Bool) → b ≡ true → T b
true_so b h = subst T (sym h) tt

so_true : (b : Bool) → T b → b ≡ true
so_true true h = refl
so_true false h = absurd h

stays_table : {A : Type 0} (n : List ℕ) (x : A) (t : Table A) → IsTable t → IsTable (with_entry n x t)
stays_table n x t h = so_true (is_sorted by_bytes (with_entry n x t))
    (is_sorted-put by_bytes nat_list_cmp_total n x t (true_so (is_sorted by_bytes t) h))

pub sets_entries : (A : Type 0) → SetsEntries A
sets_entries A = record {
  here = λ n x t. found_here n x t;
  others = λ n m x t h. found_there n m x t h;
  kept = λ n x t h. stays_table n x t h;
  later = last_counts;
}

rows_back : (rows : Table Env) → table_of (structures_of rows) ≡ rows
rows_back [] = refl
rows_back (row ∷ rows) = ap (λ z. row ∷ z) (rows_back rows)

parts_back : (parts : Structures) → structures_of (table_of parts) ≡ parts
parts_back Structures.Nil = refl
parts_back (Structures.Cons name env rest) = ap (Structures.Cons name env) (parts_back rest)

pub keeps_structures : KeepsStructures
keeps_structures = record { table = rows_back; parts = parts_back }
