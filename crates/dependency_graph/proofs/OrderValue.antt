-- An order is the list of all units by rank and name, as a value.
use Rattle.std.proofs.Common.{◌≡◌, ℕ, zero, suc, ◌+◌, ◌<◌, ◌≤◌, Bool, true, false, cond, ◌&&◌, T, List, [], ◌∷◌, length, get_or, map, Option, Some, None, refl, sym, ap, subst, ◌∙◌, inl, inr, ◌⊎◌, arith}
use Rattle.std.specs.Prelude.{Contains, All, IsSorted}
use Rattle.std.specs.List.{AllByRecursion, range_with_len}
use Rattle.std.specs.FinMap.{FinMap, get, find, is_sorted, from_entries, from_sorted, values, same_map, get-from_entries, get-from_sorted, entries-from_sorted}
use Rattle.std.specs.FinMap.Entries.{below_all}
use Rattle.std.specs.Ordering.{eq_by_cmp, is_eq, is_lt, nat_cmp, ordering_reverse, ordering_then}
use Rattle.std.specs.Cmp.{IsTotalOrder, nat_cmp_total}
use Rattle.std.specs.Cmp.Lexicographic.{slice_cmp, nat_list_cmp_total}
use Rattle.std.specs.declared.cmp.Ordering.{Ordering}
use Rattle.std.specs.declared.cmp.Ordering.TheVariants.{Less, Equal, Greater}
use Rattle.std.proofs.lemmas.Bool.{cases_Bool, cases_eq}
use Rattle.std.proofs.lemmas.Cmp.{on_total, then_total}
use Rattle.std.proofs.lemmas.List.{length-map, get_or-map}
use Rattle.std.proofs.lemmas.List.Elements.{recursion_from_All}
use Rattle.std.proofs.lemmas.List.Sorted.{ranks_by, sorted_far}
use Rattle.std.proofs.lemmas.Map.Lookups.{CmpEqualImpliesEq, exact_bytes, exact_pairs, exact_unsigned}
use Rattle.dependency_graph.specs.Order.{name_of, AllAreUnits, AllDiffer, Placed, by_rank, IsOrder, AreProvidersFirst}
use Rattle.dependency_graph.specs.Cycle.{IsOrdered}
use Rattle.dependency_graph.specs.Ordered.{Position, position_cmp, placed, units, rank_of, build_order}
use Rattle.dependency_graph.proofs.Walks.{member_cases}
use Rattle.dependency_graph.proofs.RankValues.{first_in, later_in, none_in, ranks_are}
use Rattle.dependency_graph.proofs.Counting.{Member, Differ, all_differ}

-- ---- positions

exact_positions : CmpEqualImpliesEq position_cmp
exact_positions a b h =
    ap (λ (p : ℕ × List ℕ). record { rank = p.0; name = p.1 })
    (exact_pairs nat_cmp (slice_cmp nat_cmp) exact_unsigned exact_bytes (a.rank, a.name) (b.rank, b.name) h)

positions_total : IsTotalOrder position_cmp
positions_total =
    then_total (on_total (λ (p : Position). p.rank) nat_cmp_total)
    (on_total (λ (p : Position). p.name) nat_list_cmp_total)

-- a unit of an order at its position
abbrev position : List (List ℕ) → Placed → Position
position names p = record { rank = p.rank; name = name_of names p.unit }

abbrev entry : List (List ℕ) → Placed → Position × Placed
entry names p = (position names p, p)

-- ---- elements

to_member : (xs : List ℕ) (x : ℕ) → Contains xs x → Member xs x
to_member [] x c = none_in x c
to_member (y ∷ ys) x c = elim (member_cases y ys x c) [ inl same ↦ inl same | inr more ↦ inr (to_member ys x more) ]

-- the numbers of a range
pub numbers_in : (n from u : ℕ) → from ≤ u → u < from + n → Contains (range_with_len from n) u
numbers_in zero from u low high = absurd (omega arith)
numbers_in (suc n) from u low high = elim (cases_eq u from) [
  | inl same ↦ subst (Contains (range_with_len from (suc n))) (sym same) (first_in from (range_with_len (from + 1) n))
  | inr other ↦
      later_in from (range_with_len (from + 1) n) u
      (let far : from < u = omega (arith, low, other) in numbers_in n (from + 1) u (omega arith) (omega (arith, high)))
]

pub numbers_below : (n from u : ℕ) → Contains (range_with_len from n) u → u < from + n
numbers_below zero from u c = absurd (none_in u c)
numbers_below (suc n) from u c = elim (member_cases from (range_with_len (from + 1) n) u c) [
  | inl same ↦ omega (arith, same)
  | inr more ↦ let l = numbers_below n (from + 1) u more in omega (arith, l)
]

-- ---- what is found

tied : (r : Ordering) → is_eq r ≡ true → r ≡ Equal
tied Less h = cc
tied Equal h = refl
tied Greater h = cc

-- two positions that tie with one are one
one_position : (q a b : Position) → eq_by_cmp position_cmp q a ≡ true → eq_by_cmp position_cmp q b ≡ true → a ≡ b
one_position q a b first second =
    sym (exact_positions q a (tied (position_cmp q a) first)) ∙ exact_positions q b (tied (position_cmp q b) second)

found_by : (names edges : List (List ℕ)) (q : Position) (z : ℕ) (zs : List ℕ) (x : ℕ) (b : Bool)
    → eq_by_cmp position_cmp q (placed names edges z).0 ≡ b → (b ≡ true → z ≡ x)
    → (b ≡ false → find position_cmp q (map (placed names edges) zs) ≡ Some (placed names edges x).1)
    → cond b (Some (placed names edges z).1)
    (find position_cmp q (map (placed names edges) zs)) ≡ Some (placed names edges x).1
found_by names edges q z zs x true is here later = ap (λ u. Some (placed names edges u).1) (here refl)
found_by names edges q z zs x false is here later = later refl

-- the one unit of a list at a position is found there
found_one : (names edges : List (List ℕ)) (q : Position) (xs : List ℕ) (x : ℕ) → Contains xs x
    → eq_by_cmp position_cmp q (placed names edges x).0 ≡ true
    → ((y : ℕ) → Contains xs y → eq_by_cmp position_cmp q (placed names edges y).0 ≡ true → y ≡ x)
    → find position_cmp q (map (placed names edges) xs) ≡ Some (placed names edges x).1
found_one names edges q [] x c ties alone = absurd (none_in x c)
found_one names edges q (z ∷ zs) x c ties alone =
    found_by names edges q z zs x (eq_by_cmp position_cmp q (placed names edges z).0) refl
    (λ here. alone z (first_in z zs) here)
    (λ apart. elim (member_cases z zs x c) [
      | inl same ↦ absurd (let t : eq_by_cmp position_cmp q (placed names edges z).0 ≡ true =
          ap (λ u. eq_by_cmp position_cmp q (placed names edges u).0) same ∙ ties in cc)
      | inr more ↦ found_one names edges q zs x more ties (λ y h. alone y (later_in z zs y h))
    ])

none_by : (names edges : List (List ℕ)) (q : Position) (z : ℕ) (zs : List ℕ) (b : Bool) → b ≡ false
    → find position_cmp q (map (placed names edges) zs) ≡ None
    → cond b (Some (placed names edges z).1) (find position_cmp q (map (placed names edges) zs)) ≡ None
none_by names edges q z zs true is rest = cc
none_by names edges q z zs false is rest = rest

-- nothing is found where no unit stands
found_none : (names edges : List (List ℕ)) (q : Position) (xs : List ℕ)
    → ((y : ℕ) → Contains xs y → eq_by_cmp position_cmp q (placed names edges y).0 ≡ false)
    → find position_cmp q (map (placed names edges) xs) ≡ None
found_none names edges q [] none = refl
found_none names edges q (z ∷ zs) none =
    none_by names edges q z zs (eq_by_cmp position_cmp q (placed names edges z).0) (none z (first_in z zs))
    (found_none names edges q zs (λ y h. none y (later_in z zs y h)))

-- a unit of a list that stands at a position, or none does
abbrev Stands : List (List ℕ) → List (List ℕ) → Position → List ℕ → Type 0
Stands names edges q xs =
    ((x : ℕ) × Contains xs x × (eq_by_cmp position_cmp q (placed names edges x).0 ≡ true))
    ⊎ ((y : ℕ) → Contains xs y → eq_by_cmp position_cmp q (placed names edges y).0 ≡ false)

none_more : (names edges : List (List ℕ)) (q : Position) (z : ℕ) (zs : List ℕ)
    → eq_by_cmp position_cmp q (placed names edges z).0 ≡ false
    → ((y : ℕ) → Contains zs y → eq_by_cmp position_cmp q (placed names edges y).0 ≡ false)
    → (y : ℕ) → Contains (z ∷ zs) y → eq_by_cmp position_cmp q (placed names edges y).0 ≡ false
none_more names edges q z zs here rest y c = elim (member_cases z zs y c) [
  | inl same ↦ sym (ap (λ u. eq_by_cmp position_cmp q (placed names edges u).0) same) ∙ here
  | inr more ↦ rest y more
]

stands : (names edges : List (List ℕ)) (q : Position) (xs : List ℕ) → Stands names edges q xs
stands names edges q [] = inr (λ y c. absurd (none_in y c))
stands names edges q (z ∷ zs) = elim (cases_Bool (eq_by_cmp position_cmp q (placed names edges z).0)) [
  | inl here ↦ inl (z, first_in z zs, here)
  | inr apart ↦ elim (stands names edges q zs) [
    | inl some ↦ inl (some.0, later_in z zs some.0 some.1, some.2)
    | inr none ↦ inr (none_more names edges q z zs apart none)
  ]
]

-- lists of the same units of differing names find the same
found_same : (names edges : List (List ℕ)) (xs ys : List ℕ) → AllDiffer names
    → ((u : ℕ) → Contains xs u → u < length names) → ((u : ℕ) → Contains xs u → Contains ys u)
    → ((u : ℕ) → Contains ys u → Contains xs u) → (q : Position)
    → find position_cmp q (map (placed names edges) xs) ≡ find position_cmp q (map (placed names edges) ys)
found_same names edges xs ys apart known over back q = elim (stands names edges q xs) [
  | inl some ↦
      let x = some.0 in
      let alone : (y : ℕ) → Contains xs y → eq_by_cmp position_cmp q (placed names edges y).0 ≡ true → y ≡ x =
      λ y c t. apart y x (known y c) (known x some.1)
      (ap (λ (p : Position). p.name) (one_position q (placed names edges y).0 (placed names edges x).0 t some.2)) in
      found_one names edges q xs x some.1 some.2 alone
      ∙ sym (found_one names edges q ys x (over x some.1) some.2 (λ y c t. alone y (back y c) t))
  | inr none ↦
      found_none names edges q xs none ∙ sym (found_none names edges q ys (λ y c. none y (back y c)))
]

-- ---- the list of an order

entry_is : (names edges : List (List ℕ)) (p : Placed) → p.rank ≡ rank_of edges p.unit
    → placed names edges p.unit ≡ entry names p
entry_is names edges p is =
    ap (λ r. (record { rank = r; name = name_of names p.unit }, record { unit = p.unit; rank = r })) (sym is)

entries_are : (names edges : List (List ℕ)) (order : List Placed)
    → AllByRecursion (λ p. p.rank ≡ rank_of edges p.unit) order
    → map (placed names edges) (map (λ (p : Placed). p.unit) order) ≡ map (entry names) order
entries_are names edges [] all = refl
entries_are names edges (p ∷ order) (here, all) =
    ap (λ e. e ∷ map (placed names edges) (map (λ (p : Placed). p.unit) order)) (entry_is names edges p here)
    ∙ ap (λ l. entry names p ∷ l) (entries_are names edges order all)

-- two of which neither is less are one
less_by : (names : List (List ℕ)) (p q : Placed) (r : Ordering) → position_cmp (position names p) (position names q) ≡ r
    → is_lt (ordering_reverse r) ≡ false → (position names p ≡ position names q → ⊥) → r ≡ Less
less_by names p q Less is not_less other = refl
less_by names p q Equal is not_less other = absurd (other (exact_positions (position names p) (position names q) is))
less_by names p q Greater is not_less other = cc

-- the first of an order is less than each behind it
less : (names : List (List ℕ)) (p q : Placed) → is_lt (by_rank names q p) ≡ false
    → (position names p ≡ position names q → ⊥) → position_cmp (position names p) (position names q) ≡ Less
less names p q not_less other =
    less_by names p q (position_cmp (position names p) (position names q)) refl
    (ap is_lt (sym (positions_total.antisymm (position names q) (position names p))) ∙ not_less) other

-- each is less than all behind it
abbrev Rises : List (List ℕ) → List Placed → Type 0
Rises names [] = Unit {0}
Rises names (p ∷ order) =
    AllByRecursion (λ q. position_cmp (position names p) (position names q) ≡ Less) order × Rises names order

behind : (names : List (List ℕ)) (p : Placed) (order : List Placed) → (p.unit < length names)
    → All (λ q. q.unit < length names) order → AllDiffer names
    → (Member (map (λ (q : Placed). q.unit) order) p.unit → ⊥)
    → All (λ q. is_lt (by_rank names q p) ≡ false) order
    → AllByRecursion (λ q. position_cmp (position names p) (position names q) ≡ Less) order
behind names p [] known all apart other sorted = tt
behind names p (q ∷ order) known all apart other sorted = (
  less names p q (sorted 0 q (omega arith))
      (λ same. other (inl (apart q.unit p.unit (all 0 q (omega arith)) known
      (ap (λ (s : Position). s.name) (sym same))))),
  behind names p order known (λ k d within. all (suc k) d (omega arith)) apart (λ m. other (inr m))
      (λ k d within. sorted (suc k) d (omega arith)),
)

rises : (names : List (List ℕ)) (order : List Placed) → IsSorted (by_rank names) order
    → All (λ q. q.unit < length names) order → AllDiffer names → Differ (map (λ (q : Placed). q.unit) order)
    → Rises names order
rises names [] sorted known apart differ = tt
rises names (p ∷ order) sorted known apart differ = (
  behind names p order (known 0 p (omega arith)) (λ k d within. known (suc k) d (omega arith)) apart differ.0
      (λ k d within. sorted_far (λ x y. is_lt (by_rank names x y)) (ranks_by positions_total (position names))
      (p ∷ order)
      sorted 0 (suc k) d (omega arith) (omega arith)),
  rises names order
      (λ k d low within.
      let next : suc k + 1 ≡ suc (k + 1) = omega arith in
      subst (λ i. is_lt (by_rank names (get_or (p ∷ order) i d) (get_or order k d)) ≡ false) next
      (sorted (suc k) d (omega arith) (omega arith)))
      (λ k d within. known (suc k) d (omega arith)) apart differ.1,
)

and : (a b : Bool) → T a → T b → T (a && b)
and true b p q = q
and false b p q = p

below : (names : List (List ℕ)) (at : Position) (order : List Placed)
    → AllByRecursion (λ q. position_cmp at (position names q) ≡ Less) order
    → T (below_all position_cmp at (map (entry names) order))
below names at [] h = tt
below names at (q ∷ order) h = and _ _ (subst (λ r. T (is_lt r)) (sym h.0) tt) (below names at order h.1)

sorted_entries : (names : List (List ℕ)) (order : List Placed) → Rises names order
    → T (is_sorted position_cmp (map (entry names) order))
sorted_entries names [] h = tt
sorted_entries names (p ∷ order) h = and _ _ (below names (position names p) order h.0) (sorted_entries names order h.1)

placed_again : (names : List (List ℕ)) (order : List Placed)
    → map (λ (e : Position × Placed). e.1) (map (entry names) order) ≡ order
placed_again names [] = refl
placed_again names (p ∷ order) = ap (λ l. p ∷ l) (placed_again names order)

-- the units of an order are units
unit_below : (names : List (List ℕ)) (order : List Placed) → All (λ q. q.unit < length names) order → (u : ℕ)
    → Contains (map (λ (p : Placed). p.unit) order) u → u < 0 + length names
unit_below names [] known u c = absurd (none_in u c)
unit_below names (p ∷ order) known u c = elim (member_cases p.unit (map (λ (q : Placed). q.unit) order) u c) [
  | inl same ↦ let l = known 0 p (omega arith) in omega (arith, l, same)
  | inr more ↦ unit_below names order (λ k d within. known (suc k) d (omega arith)) u more
]

-- an order is the list of all units by rank and name
pub order_is : (names edges : List (List ℕ)) (order : List Placed) → length edges ≡ length names → AllAreUnits edges
    → AllDiffer names → IsOrdered names edges order → build_order names edges ≡ order
order_is names edges order same known apart is =
    let listed = map (λ (p : Placed). p.unit) order in
    let whole = is.whole in
    let all : (u : ℕ) → u < length names → Contains listed u = whole.every in
    let count : length listed ≤ length names = let c = whole.counted in
    omega (arith, c, length-map order (λ (p : Placed). p.unit)) in
    let differ = all_differ (length names) listed (λ u l. to_member listed u (all u l)) count in
    let rise = rises names order whole.sorted whole.units apart differ in
    let sorted = sorted_entries names order rise in
    let entries = entries_are names edges order
    (recursion_from_All (λ p. p.rank ≡ rank_of edges p.unit) order
    (ranks_are names edges order same known whole is.before)) in
    let number : (u : ℕ) → Contains (units names) u → u < length names =
    λ u c. let l = numbers_below (length names) 0 u c in omega (arith, l) in
    ap values (same_map positions_total exact_positions
    (from_entries (map (placed names edges) (units names))) (from_sorted (map (entry names) order))
    (λ q.
    get-from_entries positions_total (map (placed names edges) (units names)) q
    ∙ found_same names edges (units names) listed apart number (λ u c. all u (number u c))
    (λ u c. numbers_in (length names) 0 u (omega arith) (unit_below names order whole.units u c)) q
    ∙ ap (find position_cmp q) entries
    ∙ sym (get-from_sorted position_cmp (map (entry names) order) q sorted)))
    ∙ ap (map (λ (e : Position × Placed). e.1)) (entries-from_sorted position_cmp (map (entry names) order) sorted)
    ∙ placed_again names order
