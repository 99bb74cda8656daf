-- Where there is no cycle, the units have ranks, and can be put in order.
use Rattle.std.proofs.Common.{◌≡◌, ◌⊎◌, ◌∙◌, inl, inr, sym, ap, refl, subst, ℕ, zero, suc, ◌+◌, ◌<◌, true, false, cond, List, [], ◌∷◌, length, get_or, map, arith}
use Rattle.std.specs.Prelude.{All, Contains, IsSorted}
use Rattle.std.specs.List.{range_with_len}
use Rattle.std.specs.Ordering.{is_gt, is_lt, ordering_reverse}
use Rattle.std.specs.declared.cmp.Ordering.{Ordering}
use Rattle.std.specs.declared.cmp.Ordering.TheVariants.{Less, Equal, Greater}
use Rattle.std.specs.Cmp.{IsTotalOrder, nat_cmp_total}
use Rattle.std.specs.Cmp.Lexicographic.{nat_list_cmp_total}
use Rattle.std.proofs.lemmas.Bool.{cases_Bool}
use Rattle.std.proofs.lemmas.Cmp.{on_total, then_total, upto}
use Rattle.std.proofs.lemmas.List.{get_or-map, length-map}
use Rattle.std.proofs.lemmas.List.Elements.{Contains-get_or}
use Rattle.dependency_graph.specs.Order.{IsOrder, IsRank, Placed, by_rank, name_of}
use Rattle.dependency_graph.specs.Cycle.{HasNoCycle, IsOrdered}
use Rattle.dependency_graph.specs.Ordered.{rank_of, units}
use Rattle.dependency_graph.proofs.OneAnswer.{more_steps}
use Rattle.dependency_graph.proofs.OrderValue.{numbers_below, numbers_in}
use Rattle.dependency_graph.proofs.RankValues.{first_in, later_in, none_in, rank_longest, rank_reached}
use Rattle.dependency_graph.proofs.Sorting.{providers_first}
use Rattle.dependency_graph.proofs.Walks.{member_cases, no_cycle}
use Rattle.order_laws.specs.Laws.{AreUnits, OrderHasNoCycle, RankIsLongest}

-- ---- ranks

pub rank_is_longest : RankIsLongest
unfolding rank_of
rank_is_longest edges unit all none known = record {
  reached = rank_reached edges (length edges) unit;
  longest = λ steps last way.
      let long = rank_longest edges (steps + length edges) unit steps last (omega arith) way in
      let same = more_steps edges (steps + length edges) unit all none known (omega arith) in
      omega (arith, long, same);
}

-- the rank that a list has for a unit
ranked : (names edges : List (List ℕ)) (order : List Placed) (unit : ℕ) → IsOrder names edges order
    → Contains (map (λ (p : Placed). p.unit) order) unit → (rank : ℕ) × IsRank edges unit rank
ranked names edges order unit is (at, within, there) =
    let low : at < length order = omega (arith, within, length-map order (λ (p : Placed). p.unit)) in
    let blank : Placed = record { unit = unit; rank = 0 } in
    let found : (get_or order at blank).unit ≡ unit =
    sym (get_or-map (λ (p : Placed). p.unit) order at blank unit low) ∙ there in
    let placed = get_or order at blank in
    (placed.rank, subst (λ u. IsRank edges u placed.rank) found (is.ranks at blank low))

pub order_has_no_cycle : OrderHasNoCycle
order_has_no_cycle names edges order same is = record {
  no_cycle = no_cycle edges
      (λ unit known. ranked names edges order unit is (is.every unit (omega (arith, known, same))));
  whole = is;
  before = providers_first names edges order is;
}

-- ---- sorting

placed_total : (names : List (List ℕ)) → IsTotalOrder (by_rank names)
placed_total names =
    then_total (on_total (λ (p : Placed). p.rank) nat_cmp_total)
    (on_total (λ (p : Placed). name_of names p.unit) nat_list_cmp_total)

module _ (names : List (List ℕ)) where
  -- not behind another one
  abbrev NotBehind : Placed → Placed → Type 0
  NotBehind p q = is_gt (by_rank names p q) ≡ false

  abbrev place : Placed → List Placed → List Placed
  place p [] = p ∷ []
  place p (q ∷ rest) = cond (is_gt (by_rank names p q)) (q ∷ place p rest) (p ∷ q ∷ rest)

  abbrev in_place : List Placed → List Placed
  in_place [] = []
  in_place (p ∷ rest) = place p (in_place rest)

  length-place : (p : Placed) (list : List Placed) → length (place p list) ≡ suc (length list)
  length-place p [] = refl
  length-place p (q ∷ rest) = elim (cases_Bool (is_gt (by_rank names p q))) [
    | inl behind ↦ ap (λ b. length (cond b (q ∷ place p rest) (p ∷ q ∷ rest))) behind ∙ ap suc (length-place p rest)
    | inr not_behind ↦ ap (λ b. length (cond b (q ∷ place p rest) (p ∷ q ∷ rest))) not_behind
  ]

  length-in_place : (list : List Placed) → length (in_place list) ≡ length list
  length-in_place [] = refl
  length-in_place (p ∷ rest) = length-place p (in_place rest) ∙ ap suc (length-in_place rest)

  -- the elements stay
  placed_is : (p : Placed) (list : List Placed) (x : Placed) → Contains (place p list) x → (p ≡ x) ⊎ Contains list x
  placed_is p [] x c = elim (member_cases p [] x c) [ inl same ↦ inl same | inr more ↦ absurd (none_in x more) ]
  placed_is p (q ∷ rest) x c = elim (cases_Bool (is_gt (by_rank names p q))) [
    | inl behind ↦ elim (member_cases q (place p rest) x
        (subst (λ b. Contains (cond b (q ∷ place p rest) (p ∷ q ∷ rest)) x) behind c)) [
          | inl same ↦ inr (subst (Contains (q ∷ rest)) same (first_in q rest))
          | inr more ↦ elim (placed_is p rest x more)
              [ inl same ↦ inl same | inr other ↦ inr (later_in q rest x other) ]
        ]
    | inr not_behind ↦
        member_cases p (q ∷ rest) x (subst (λ b. Contains (cond b (q ∷ place p rest) (p ∷ q ∷ rest)) x) not_behind c)
  ]

  is_placed : (p : Placed) (list : List Placed) (x : Placed) → Contains (p ∷ list) x → Contains (place p list) x
  is_placed p [] x c = c
  is_placed p (q ∷ rest) x c = elim (cases_Bool (is_gt (by_rank names p q))) [
    | inl behind ↦ subst (λ b. Contains (cond b (q ∷ place p rest) (p ∷ q ∷ rest)) x) (sym behind)
        (elim (member_cases p (q ∷ rest) x c) [
          | inl same ↦ later_in q (place p rest) x
              (is_placed p rest x (subst (Contains (p ∷ rest)) same (first_in p rest)))
          | inr more ↦ elim (member_cases q rest x more) [
            | inl same ↦ subst (Contains (q ∷ place p rest)) same (first_in q (place p rest))
            | inr other ↦ later_in q (place p rest) x (is_placed p rest x (later_in p rest x other))
          ]
        ])
    | inr not_behind ↦ subst (λ b. Contains (cond b (q ∷ place p rest) (p ∷ q ∷ rest)) x) (sym not_behind) c
  ]

  all_in : (list : List Placed) (x : Placed) → Contains list x → Contains (in_place list) x
  all_in [] x c = c
  all_in (p ∷ rest) x c = is_placed p (in_place rest) x (elim (member_cases p rest x c) [
    | inl same ↦ subst (Contains (p ∷ in_place rest)) same (first_in p (in_place rest))
    | inr more ↦ later_in p (in_place rest) x (all_in rest x more)
  ])

  none_new : (list : List Placed) (x : Placed) → Contains (in_place list) x → Contains list x
  none_new [] x c = c
  none_new (p ∷ rest) x c = elim (placed_is p (in_place rest) x c) [
    | inl same ↦ subst (Contains (p ∷ rest)) same (first_in p rest)
    | inr more ↦ later_in p rest x (none_new rest x more)
  ]

  -- each is behind none that follows
  abbrev Rises : List Placed → Type 0
  Rises [] = Unit {0}
  Rises (p ∷ rest) = ((q : Placed) → Contains rest q → NotBehind p q) × Rises rest

  turned : (r : Ordering) → is_gt r ≡ true → is_gt (ordering_reverse r) ≡ false
  turned Less h = cc
  turned Equal h = cc
  turned Greater h = refl

  -- what is behind another one has it not behind itself
  turn : (p q : Placed) → is_gt (by_rank names p q) ≡ true → NotBehind q p
  turn p q behind =
      ap is_gt ((placed_total names).antisymm q p) ∙ turned (by_rank names p q) behind

  rises_with : (p : Placed) (list : List Placed) → Rises list → Rises (place p list)
  rises_with p [] rises = (λ q c. absurd (none_in q c), tt)
  rises_with p (q ∷ rest) rises = elim (cases_Bool (is_gt (by_rank names p q))) [
    | inl behind ↦ subst (λ b. Rises (cond b (q ∷ place p rest) (p ∷ q ∷ rest))) (sym behind) (
      λ x c. elim (placed_is p rest x c) [
        | inl same ↦ subst (NotBehind q) same (turn p q behind)
        | inr more ↦ rises.0 x more
      ],
      rises_with p rest rises.1,
    )
    | inr not_behind ↦ subst (λ b. Rises (cond b (q ∷ place p rest) (p ∷ q ∷ rest))) (sym not_behind) (
      λ x c. elim (member_cases q rest x c) [
        | inl same ↦ subst (NotBehind p) same not_behind
        | inr more ↦ upto (placed_total names) p q x not_behind (rises.0 x more)
      ],
      rises,
    )
  ]

  all_rise : (list : List Placed) → Rises (in_place list)
  all_rise [] = tt
  all_rise (p ∷ rest) = rises_with p (in_place rest) (all_rise rest)

  not_less : (r : Ordering) → is_gt r ≡ false → is_lt (ordering_reverse r) ≡ false
  not_less Less h = refl
  not_less Equal h = refl
  not_less Greater h = cc

  sorted_by : (list : List Placed) → Rises list → IsSorted (by_rank names) list
  sorted_by [] rises k d low within = absurd (omega (arith, within))
  sorted_by (p ∷ []) rises k d low within = absurd (omega (arith, within))
  sorted_by (p ∷ q ∷ rest) rises zero d low within =
      ap is_lt ((placed_total names).antisymm q p)
      ∙ not_less (by_rank names p q) (rises.0 q (first_in q rest))
  sorted_by (p ∷ q ∷ rest) rises (suc k) d low within =
      let next : suc k + 1 ≡ suc (k + 1) = omega arith in
      subst (λ i. is_lt (by_rank names (get_or (p ∷ q ∷ rest) i d) (get_or (q ∷ rest) k d)) ≡ false) (sym next)
      (sorted_by (q ∷ rest) rises.1 k d (omega arith) (omega (arith, within)))

-- ---- the order

-- the units with their ranks
abbrev by_number : List (List ℕ) → List ℕ → List Placed
by_number edges list = map (λ (u : ℕ). let p : Placed = record { unit = u; rank = rank_of edges u } in p) list

abbrev IsNumbered : List (List ℕ) → List (List ℕ) → Placed → Type 0
IsNumbered names edges p = (p.unit < length names) × (p.rank ≡ rank_of edges p.unit)

numbered : (names edges : List (List ℕ)) (list : List ℕ) → ((u : ℕ) → Contains list u → u < length names)
    → (p : Placed) → Contains (by_number edges list) p → IsNumbered names edges p
numbered names edges [] known p c = absurd (none_in p c)
numbered names edges (u ∷ list) known p c =
    let first : Placed = record { unit = u; rank = rank_of edges u } in
    elim (member_cases first (by_number edges list) p c) [
      | inl same ↦ subst (IsNumbered names edges) same (known u (first_in u list), refl)
      | inr more ↦ numbered names edges list (λ v h. known v (later_in u list v h)) p more
    ]

number_in : (edges : List (List ℕ)) (list : List ℕ) (u : ℕ) → Contains list u
    → (p : Placed) × Contains (by_number edges list) p × (p.unit ≡ u)
number_in edges [] u c = absurd (none_in u c)
number_in edges (v ∷ list) u c =
    let first : Placed = record { unit = v; rank = rank_of edges v } in
    elim (member_cases v list u c) [
      | inl same ↦ (first, first_in first (by_number edges list), same)
      | inr more ↦
          let rest = number_in edges list u more in
          (rest.0, later_in first (by_number edges list) rest.0 rest.1, rest.2)
    ]

unit_in : (order : List Placed) (p : Placed) (u : ℕ) → Contains order p → p.unit ≡ u
    → Contains (map (λ (q : Placed). q.unit) order) u
unit_in [] p u c is = absurd (none_in p c)
unit_in (q ∷ order) p u c is = elim (member_cases q order p c) [
  | inl same ↦ subst (Contains (map (λ (r : Placed). r.unit) (q ∷ order))) (ap (λ (r : Placed). r.unit) same ∙ is)
      (first_in q.unit (map (λ (r : Placed). r.unit) order))
  | inr more ↦ later_in q.unit (map (λ (r : Placed). r.unit) order) u (unit_in order p u more is)
]

all_of : (P : Placed → Type 0) (list : List Placed) → ((p : Placed) → Contains list p → P p) → All P list
all_of P list each k d within = each (get_or list k d) (Contains-get_or list k d within)

pub length-numbers : (n from : ℕ) → length (range_with_len from n) ≡ n
length-numbers zero from = refl
length-numbers (suc n) from = ap suc (length-numbers n (from + 1))

-- where there is no cycle there is an order
pub some_order : (names edges : List (List ℕ)) → AreUnits names edges → HasNoCycle edges
    → (order : List Placed) × IsOrdered names edges order
some_order names edges are none =
    let same = are.lists in
    let all = by_number edges (units names) in
    let order = in_place names all in
    let each : (p : Placed) → Contains order p → IsNumbered names edges p =
    λ p c. numbered names edges (units names)
    (λ u h. let low = numbers_below (length names) 0 u h in omega (arith, low)) p (none_new names all p c) in
    let whole : IsOrder names edges order = record {
      counted = length-in_place names all
          ∙ length-map (units names) (λ (u : ℕ). let p : Placed = record { unit = u; rank = rank_of edges u } in p)
          ∙ length-numbers (length names) 0;
      units = all_of (λ p. p.unit < length names) order (λ p c. (each p c).0);
      every = λ unit known.
          let has = number_in edges (units names) unit
          (numbers_in (length names) 0 unit (omega arith) (omega (arith, known))) in
          unit_in order has.0 unit (all_in names all has.0 has.1) has.2;
      ranks = all_of (λ p. IsRank edges p.unit p.rank) order (λ p c.
          let number = each p c in
          let known = number.0 in
          subst (IsRank edges p.unit) (sym number.1)
          (rank_is_longest edges p.unit are.known none (omega (arith, known, same))));
      sorted = sorted_by names order (all_rise names all);
    } in
    (order, order_has_no_cycle names edges order same whole)
