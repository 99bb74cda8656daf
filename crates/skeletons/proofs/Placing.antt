-- The entries of a table of uses by their places, seen as a finite map.
use Rattle.std.proofs.Common.{◌≡◌, sym, ap, subst, ◌∙◌, refl, Bool, true, false, cond, ◌&&◌, T, ℕ, suc, ◌+◌, Some, List, [], length}
use Rattle.std.proofs.Common.{◌∷◌, ◌++◌, map, add-zero, arith}
use Rattle.std.specs.Prelude.{Result, Ok, Err, IfOk}
use Rattle.std.specs.Ordering.{nat_cmp, is_lt, eq_by_cmp, ordering_then}
use Rattle.std.specs.declared.cmp.Ordering.TheVariants.{Less}
use Rattle.std.specs.Cmp.{IsTotalOrder, eq_by_cmp_equiv, nat_cmp_total}
use Rattle.std.specs.FinMap.{FinMap, empty, get, insert, find, is_sorted, from_entries, from_sorted, values}
use Rattle.std.specs.FinMap.{same_map, get-from_entries, get-from_sorted, entries-from_sorted, get-insert}
use Rattle.std.specs.FinMap.Entries.{below_all}
use Rattle.std.specs.List.{AllByRecursion}
use Rattle.std.specs.List.Sorted.{IsStrictlySortedBy}
use Rattle.std.specs.Map.{lookup, keys_of}
use Rattle.std.specs.BTreeMap.{is_at}
use Rattle.std.proofs.lemmas.Map.Lookups.{CmpEqualImpliesEq, exact_pairs, exact_unsigned}
use Rattle.std.proofs.lemmas.Cmp.{on_total, then_total}
use Rattle.cm_base.specs.declared.record.Need.{Need}
use Rattle.skeletons.specs.declared.places.Position.{Position}
use Rattle.skeletons.specs.Skeletons.{position_cmp, placed, in_order}

-- the entries of a table
abbrev Entries : Type 0
Entries = List (Position × Need)

-- places that compare alike are one
exact_positions : CmpEqualImpliesEq position_cmp
exact_positions a b h =
    ap (λ (p : ℕ × (ℕ × ℕ)). record { line = p.0; col = p.1.0; number = p.1.1 })
    (exact_pairs nat_cmp (λ (x y : ℕ × ℕ). ordering_then (nat_cmp x.0 y.0) (nat_cmp x.1 y.1)) exact_unsigned
    (exact_pairs nat_cmp nat_cmp exact_unsigned exact_unsigned)
    (a.line, (a.col, a.number)) (b.line, (b.col, b.number)) h)

-- the order of places is total
pub positions_total : IsTotalOrder position_cmp
positions_total =
    then_total (on_total (λ s. s.line) nat_cmp_total)
    (then_total (on_total (λ s. s.col) nat_cmp_total) (on_total (λ s. s.number) nat_cmp_total))

-- what a table has at a place is what its entries have there
lookup-find : (es : Entries) (q : Position) → lookup (is_at (position_cmp q)) es ≡ find position_cmp q es
lookup-find [] q = refl
lookup-find (e ∷ es) q = ap (cond (is_at (position_cmp q) e.0) (Some e.1)) (lookup-find es q)

-- .. and what the map of its entries has there
get_position : (es : Entries) (q : Position) → get (from_entries {R = position_cmp} es) q
    ≡ lookup (is_at (position_cmp q)) es
get_position es q = get-from_entries positions_total es q ∙ sym (lookup-find es q)

-- a table that differs at one place is the map with that use set
pub put_position : (es fs : Entries) (p : Position) (need : Need)
    → ((q : Position) → lookup (is_at (position_cmp q)) fs
    ≡ cond (is_at (position_cmp p) q) (Some need) (lookup (is_at (position_cmp q)) es))
    → from_entries {R = position_cmp} fs ≡ insert (from_entries es) p need
put_position es fs p need h = same_map positions_total exact_positions _ _ (λ q.
    get_position fs q ∙ h q
    ∙ ap (λ b. cond b (Some need) (lookup (is_at (position_cmp q)) es))
    ((eq_by_cmp_equiv positions_total).symm p q)
    ∙ sym (get-insert positions_total (from_entries es) p need q
    ∙ ap (cond (eq_by_cmp position_cmp q p) (Some need)) (get_position es q)))

-- where a use of this number stands
abbrev pub position : ℕ → Need → Position
position number need = record { line = need.spot.line; col = need.spot.col; number = number }

-- one more on either side
one_on : (m n : ℕ) → suc m + n ≡ m + suc n
one_on m n = omega arith

-- a use that is placed after others
pub placed_more : (table : FinMap position_cmp Need) (number : ℕ) (needs : List Need) (need : Need)
    → placed table number (needs ++ need ∷ [])
    ≡ insert (placed table number needs) (position (number + length needs) need) need
placed_more table number [] need =
    ap (λ n. insert table (position n need) need) (sym (add-zero number))
placed_more table number (first ∷ needs) need =
    placed_more (insert table (position number first) first) (suc number) needs need
    ∙ ap (λ n. insert (placed (insert table (position number first) first) (suc number) needs) (position n need) need)
    (one_on number (length needs))

-- both of two tests
and : (a b : Bool) → T a → T b → T (a && b)
and true b p q = q
and false b p q = p

-- a place below all keys is below all entries
below : (x : Position) (es : Entries) → AllByRecursion (λ y. position_cmp x y ≡ Less) (keys_of es)
    → T (below_all position_cmp x es)
below x [] h = tt
below x (e ∷ es) h = and _ _ (subst (λ r. T (is_lt r)) (sym h.0) tt) (below x es h.1)

-- entries of rising keys are sorted
rising : (es : Entries) → IsStrictlySortedBy position_cmp (keys_of es) → T (is_sorted position_cmp es)
unfolding IsStrictlySortedBy
rising [] h = tt
rising (e ∷ es) h = and _ _ (below e.0 es h.0) (rising es h.1)

-- the uses of a map are those of its table, in order
pub values_placed : (es : Entries) → IsStrictlySortedBy position_cmp (keys_of es)
    → values (from_entries {R = position_cmp} es) ≡ map (λ (e : Position × Need). e.1) es
values_placed es h =
    let sorted = rising es h in
    ap values (same_map positions_total exact_positions (from_entries es) (from_sorted es)
    (λ q. get-from_entries positions_total es q ∙ sym (get-from_sorted position_cmp es q sorted)))
    ∙ ap (map (λ (e : Position × Need). e.1)) (entries-from_sorted position_cmp es sorted)

-- a list of the uses of a table is the list of the uses in their order
pub listed_so : {E : Type 0} (result : Result (List Need) E) (es : Entries) (needs : List Need)
    → IfOk result (λ list. list ≡ map (λ (e : Position × Need). e.1) es)
    → IsStrictlySortedBy position_cmp (keys_of es)
    → from_entries {R = position_cmp} es ≡ placed empty 0 needs → IfOk result (λ list. list ≡ in_order needs)
listed_so (Ok list) es needs listed rising placed_so = listed ∙ sym (values_placed es rising) ∙ ap values placed_so
listed_so (Err fault) es needs listed rising placed_so = tt
