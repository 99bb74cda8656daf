-- From a sort by rank, name and number to the order of the units.
use Rattle.std.proofs.Common.{◌≡◌, ℕ, suc, ◌+◌, ◌<◌, ◌≤◌, false, List, [], ◌∷◌, ◌++◌, length, get_or, map, slice_get, Some, refl, sym, ap, subst, ◌∙◌, inl, inr, arith}
use Rattle.std.specs.Prelude.{Contains, All, IsPermutation, IsSorted}
use Rattle.std.specs.Ordering.{ordering_then, nat_cmp, is_lt, MatchOrdering}
use Rattle.std.specs.Cmp.Lexicographic.{slice_cmp}
use Rattle.std.specs.List.Sorted.{IsNonDecreasingBy}
use Rattle.std.specs.declared.cmp.Ordering.{Ordering}
use Rattle.std.specs.declared.cmp.Ordering.TheVariants.{Less, Equal, Greater}
use Rattle.std.proofs.lemmas.Bool.{cases_lt, cases_eq}
use Rattle.std.proofs.lemmas.Cmp.{ranked}
use Rattle.std.proofs.lemmas.List.{length_push, length-map, map_push, get_or-map}
use Rattle.std.proofs.lemmas.Option.{slice_get-get_or}
use Rattle.std.proofs.lemmas.List.Elements.{All-push, All-map, Contains-append_left, Contains-push}
use Rattle.std.proofs.lemmas.List.Sorted.{IsPermutation-map, All-permutation, Contains-permutation, length_permutation, IsNonDecreasingBy-from_all_adjacent}
use Rattle.dependency_graph.specs.Order.{name_of, by_rank, placed_units, Placed, IsRank, IsOrder, AreProvidersFirst}
use Rattle.dependency_graph.specs.Cycle.{IsOrdered}
use Rattle.dependency_graph.specs.Search.{AreRanks}
use Rattle.dependency_graph.specs.Ranked.{AreRanked, IsRanked, IsSortedOrder, IsPlacing, ranked_cmp}
use Rattle.dependency_graph.specs.declared.ranked.Ranked.{Ranked}
use Rattle.dependency_graph.proofs.Walks.{no_cycle}

-- the next unit with its rank and name
pub ranked_more : (names : List (List ℕ)) (ranks : List ℕ) (count : ℕ) (all : List Ranked) (one : Ranked) →
    AreRanked names ranks count all → IsRanked names ranks one → one.unit ≡ count →
    AreRanked names ranks (count + 1) (all ++ one ∷ [])
ranked_more names ranks count all one are is next = record {
  counted = length_push all one ∙ ap (λ n. n + 1) are.counted;
  every = λ (unit : ℕ) (before : unit < count + 1).
      subst (λ l. Contains l unit) (sym (map_push (λ (r : Ranked). r.unit) all one))
      (elim (cases_eq unit count) [
        | inl same ↦
            subst (Contains (map (λ (r : Ranked). r.unit) all ++ one.unit ∷ [])) (next ∙ sym same)
            (Contains-push (map (λ (r : Ranked). r.unit) all) one.unit)
        | inr other ↦
            Contains-append_left (map (λ (r : Ranked). r.unit) all) (one.unit ∷ []) unit
            (are.every unit (omega arith))
      ]);
  each = All-push (IsRanked names ranks) all one are.each is;
}

-- what the units are in another order
pub ranked_sorted : (names : List (List ℕ)) (ranks : List ℕ) (old new : List Ranked) →
    AreRanked names ranks (length names) old → IsPermutation old new → IsSorted ranked_cmp new →
    IsSortedOrder names ranks new
ranked_sorted names ranks old new are moved sorted = record {
  whole = record {
    counted = length_permutation old new moved ∙ are.counted;
    every = λ (unit : ℕ) (known : unit < length names).
        Contains-permutation (map (λ (r : Ranked). r.unit) old) (map (λ (r : Ranked). r.unit) new) unit
        (IsPermutation-map (λ (r : Ranked). r.unit) old new moved) (are.every unit known);
    each = All-permutation (IsRanked names ranks) old new moved are.each;
  };
  sorted = sorted;
}

-- what isn't less by three comparisons isn't less by the first two
lt_first : (a b c : Ordering) → is_lt (ordering_then a (ordering_then b c)) ≡ false → is_lt (ordering_then a b) ≡ false
lt_first Less b c e = e
lt_first Equal Less c e = e
lt_first Equal Equal c e = refl
lt_first Equal Greater c e = refl
lt_first Greater b c e = refl

-- a ranked unit to stand where there is none
abbrev blank : Ranked
blank = record { rank = 0; name = []; unit = 0 }

-- the place of a ranked unit
abbrev place_of : List ℕ → Ranked → Placed
place_of ranks r = record { unit = r.unit; rank = get_or ranks r.unit 0 }

-- the units of a sorted list are placed by their own numbers
placed_is : (ranks : List ℕ) (all : List Ranked) →
    placed_units ranks (map (λ (r : Ranked). r.unit) all) ≡ map (place_of ranks) all
placed_is ranks [] = refl
placed_is ranks (r ∷ rs) = ap (λ l. place_of ranks r ∷ l) (placed_is ranks rs)

-- the units of placed units
units_are : (ranks : List ℕ) (all : List Ranked) →
    map (λ (p : Placed). p.unit) (map (place_of ranks) all) ≡ map (λ (r : Ranked). r.unit) all
units_are ranks [] = refl
units_are ranks (r ∷ rs) = ap (λ l. r.unit ∷ l) (units_are ranks rs)

-- two ranked units compare as their places do
compare_is : (names : List (List ℕ)) (ranks : List ℕ) (a b : Ranked) → IsRanked names ranks a →
    IsRanked names ranks b →
    by_rank names (place_of ranks a) (place_of ranks b)
    ≡ ordering_then (nat_cmp a.rank b.rank) (slice_cmp nat_cmp a.name b.name)
compare_is names ranks a b is has = rw (is.rank, has.rank, is.name, has.name) refl

-- a sorted list of ranked units gives a sorted order
placed_sorted : (names : List (List ℕ)) (ranks : List ℕ) (all : List Ranked) → All (IsRanked names ranks) all →
    IsSorted ranked_cmp all → IsSorted (by_rank names) (map (place_of ranks) all)
placed_sorted names ranks all each sorted k d low within =
    let short : k + 1 < length all = omega (arith, length-map all (place_of ranks)) in
    let near : k < length all = omega arith in
    let a = get_or all (k + 1) blank in
    let b = get_or all k blank in
    rw (
      get_or-map (place_of ranks) all (k + 1) blank d short,
      get_or-map (place_of ranks) all k blank d near,
      compare_is names ranks a b (each (k + 1) blank short) (each k blank near),
    )
    (lt_first (nat_cmp a.rank b.rank) (slice_cmp nat_cmp a.name b.name) (nat_cmp a.unit b.unit)
    (sorted k blank low short))

-- the order of sorted units
pub placing : (names : List (List ℕ)) (ranks : List ℕ) (all : List Ranked) → IsSortedOrder names ranks all →
    IsPlacing names ranks (placed_units ranks (map (λ (r : Ranked). r.unit) all))
placing names ranks all is =
    subst (IsPlacing names ranks) (sym (placed_is ranks all))
    (record {
      counted = length-map all (place_of ranks) ∙ is.whole.counted;
      every = λ (unit : ℕ) (known : unit < length names).
          subst (λ l. Contains l unit) (sym (units_are ranks all)) (is.whole.every unit known);
      noted =
          All-map (λ (p : Placed). (p.unit < length names) × (p.rank ≡ get_or ranks p.unit 0)) (place_of ranks) all
          (λ k d within. (((is.whole.each k d within).known), refl));
      sorted = placed_sorted names ranks all is.whole.each is.sorted;
    })

-- a rank that isn't less is no less
no_less : (a b : ℕ) (r o : Ordering) → MatchOrdering r (a < b) (a ≡ b) (b < a) →
    is_lt (ordering_then r o) ≡ false → b ≤ a
no_less a b Less o says e = cc
no_less a b Equal o says e = omega (arith, says)
no_less a b Greater o says e = omega (arith, says)

-- the ranks of an order never fall
ranks_rise : (names : List (List ℕ)) (order : List Placed) → IsSorted (by_rank names) order →
    IsNonDecreasingBy (λ (p : Placed). p.rank) order
ranks_rise names order sorted =
    IsNonDecreasingBy-from_all_adjacent (λ (p : Placed). p.rank) order
    (λ k d within.
    let a = get_or order (k + 1) d in
    let b = get_or order k d in
    no_less a.rank b.rank (nat_cmp a.rank b.rank)
    (slice_cmp nat_cmp (name_of names a.unit) (name_of names b.unit)) (ranked a.rank b.rank _ refl)
    (sorted k d (omega arith) within))

-- the order of all units with their ranks puts providers first
pub providers_first : (names edges : List (List ℕ)) (order : List Placed) → IsOrder names edges order →
    AreProvidersFirst edges order
providers_first names edges order is user provider d known found edge =
    let below = is.ranks provider d found in
    let above = is.ranks user d known in
    let longer = above.longest (suc (get_or order provider d).rank) below.reached.0
    ((get_or order provider d).unit, edge, below.reached.1) in
    elim (cases_lt provider user) [
      | inl before ↦ before
      | inr after ↦
          let rises = ranks_rise names order is.sorted user provider d after found in
          absurd (omega (arith, longer, rises))
    ]

-- units that are placed by their ranks are ordered
pub ordered : (names edges : List (List ℕ)) (ranks : List ℕ) (order : List Placed) →
    length edges ≡ length names → AreRanks edges ranks → IsPlacing names ranks order → IsOrdered names edges order
ordered names edges ranks order same right placed =
    let whole : IsOrder names edges order = record {
      counted = placed.counted;
      units = λ (k : ℕ) (d : Placed) (within : k < length order). (placed.noted k d within).0;
      every = placed.every;
      ranks = λ (k : ℕ) (d : Placed) (within : k < length order).
          let noted = placed.noted k d within in
          subst (IsRank edges (get_or order k d).unit) (sym noted.1)
          (right.right (get_or order k d).unit (omega (arith, noted.0, same)));
      sorted = placed.sorted;
    } in
    record {
      no_cycle = no_cycle edges (λ unit known. (get_or ranks unit 0, right.right unit known));
      whole = whole;
      before = providers_first names edges order whole;
    }

-- the units of an order as it keeps them
units_placed : (ranks units : List ℕ) → map (λ (p : Placed). p.unit) (placed_units ranks units) ≡ units
units_placed ranks [] = refl
units_placed ranks (u ∷ us) = ap (λ l. u ∷ l) (units_placed ranks us)

-- the rank of a unit wherever it stands
pub rank_noted : (ranks units : List ℕ) (unit : ℕ) →
    All (λ (p : Placed). p.unit ≡ unit → p.rank ≡ get_or ranks unit 0) (placed_units ranks units)
rank_noted ranks units unit =
    All-map (λ (p : Placed). p.unit ≡ unit → p.rank ≡ get_or ranks unit 0)
    (λ u. let p : Placed = record { unit = u; rank = get_or ranks u 0 } in p) units
    (λ k d within same. ap (λ u. get_or ranks u 0) same)

-- the unit at a place
pub unit_at : (ranks units : List ℕ) (place : ℕ) → place < length units →
    slice_get (map (λ (p : Placed). p.unit) (placed_units ranks units)) place ≡ Some (get_or units place 0)
unit_at ranks units place within = rw (units_placed ranks units) (slice_get-get_or units place 0 within)
