-- The entries of a sorted table of files, seen as a finite map.
use Rattle.std.proofs.Common.{◌≡◌, sym, ap, subst, ◌∙◌, refl, Bool, true, false, cond, ◌&&◌, T, ℕ, Some, None, List, [], ◌∷◌, map}
use Rattle.std.specs.Ordering.{nat_cmp, is_lt, eq_by_cmp}
use Rattle.std.specs.declared.cmp.Ordering.TheVariants.{Less}
use Rattle.std.specs.Cmp.{eq_by_cmp_equiv}
use Rattle.std.specs.Cmp.Lexicographic.{slice_cmp, nat_list_cmp_total}
use Rattle.std.specs.FinMap.{get, insert, remove, find, is_sorted, from_entries, from_sorted, keys, same_map, get-from_entries, get-from_sorted, entries-from_sorted, get-insert, get-remove}
use Rattle.std.specs.FinMap.Entries.{below_all}
use Rattle.std.specs.List.{AllByRecursion}
use Rattle.std.specs.List.Sorted.{IsStrictlySortedBy}
use Rattle.std.specs.Map.{lookup, keys_of}
use Rattle.std.specs.BTreeMap.{is_at}
use Rattle.std.proofs.lemmas.Map.Lookups.{exact_bytes}

abbrev Entries : Type 0
Entries = List (List ℕ × List ℕ)

-- what a table has at a path is what its entries have there
lookup-find : (es : Entries) (q : List ℕ) → lookup (is_at (slice_cmp nat_cmp q)) es ≡ find (slice_cmp nat_cmp) q es
lookup-find [] q = refl
lookup-find (e ∷ es) q = ap (cond (is_at (slice_cmp nat_cmp q) e.0) (Some e.1)) (lookup-find es q)

-- .. and what the map of its entries has there
pub get_path : (es : Entries) (q : List ℕ) → get (from_entries {R = slice_cmp nat_cmp} es) q ≡ lookup (is_at (slice_cmp nat_cmp q)) es
get_path es q = get-from_entries nat_list_cmp_total es q ∙ sym (lookup-find es q)

-- a table that differs at one path, where it has this, is the map with that file set
pub put_path : (es fs : Entries) (path bytes : List ℕ)
    → ((q : List ℕ) → lookup (is_at (slice_cmp nat_cmp q)) fs
    ≡ cond (is_at (slice_cmp nat_cmp path) q) (Some bytes) (lookup (is_at (slice_cmp nat_cmp q)) es))
    → from_entries {R = slice_cmp nat_cmp} fs ≡ insert (from_entries es) path bytes
put_path es fs path bytes h = same_map nat_list_cmp_total exact_bytes _ _ (λ q.
    get_path fs q ∙ h q ∙ ap (λ b. cond b (Some bytes) (lookup (is_at (slice_cmp nat_cmp q)) es)) ((eq_by_cmp_equiv nat_list_cmp_total).symm path q)
    ∙ sym (get-insert nat_list_cmp_total (from_entries es) path bytes q ∙ ap (cond (eq_by_cmp (slice_cmp nat_cmp) q path) (Some bytes)) (get_path es q)))

-- a table that differs at one path, where it has nothing, is the map without that file
pub remove_path : (es fs : Entries) (path : List ℕ)
    → ((q : List ℕ) → lookup (is_at (slice_cmp nat_cmp q)) fs
    ≡ cond (is_at (slice_cmp nat_cmp path) q) None (lookup (is_at (slice_cmp nat_cmp q)) es))
    → from_entries {R = slice_cmp nat_cmp} fs ≡ remove (from_entries es) path
remove_path es fs path h = same_map nat_list_cmp_total exact_bytes _ _ (λ q.
    get_path fs q ∙ h q ∙ ap (λ b. cond b None (lookup (is_at (slice_cmp nat_cmp q)) es)) ((eq_by_cmp_equiv nat_list_cmp_total).symm path q)
    ∙ sym (get-remove nat_list_cmp_total (from_entries es) path q ∙ ap (cond (eq_by_cmp (slice_cmp nat_cmp) q path) None) (get_path es q)))

and : (a b : Bool) → T a → T b → T (a && b)
and true b p q = q
and false b p q = p

below : (x : List ℕ) (es : Entries) → AllByRecursion (λ y. slice_cmp nat_cmp x y ≡ Less) (keys_of es) → T (below_all (slice_cmp nat_cmp) x es)
below x [] h = tt
below x (e ∷ es) h = and _ _ (subst (λ r. T (is_lt r)) (sym h.0) tt) (below x es h.1)

rising : (es : Entries) → IsStrictlySortedBy (slice_cmp nat_cmp) (keys_of es) → T (is_sorted (slice_cmp nat_cmp) es)
unfolding IsStrictlySortedBy
rising [] h = tt
rising (e ∷ es) h = and _ _ (below e.0 es h.0) (rising es h.1)

-- the paths of a map are the keys of its table
pub keys_path : (es : Entries) → IsStrictlySortedBy (slice_cmp nat_cmp) (keys_of es)
    → keys (from_entries {R = slice_cmp nat_cmp} es) ≡ keys_of es
keys_path es h =
    let sorted = rising es h in
    ap keys (same_map nat_list_cmp_total exact_bytes (from_entries es) (from_sorted es)
    (λ q. get-from_entries nat_list_cmp_total es q ∙ sym (get-from_sorted (slice_cmp nat_cmp) es q sorted)))
    ∙ ap (map (λ (e : List ℕ × List ℕ). e.0)) (entries-from_sorted (slice_cmp nat_cmp) es sorted)
