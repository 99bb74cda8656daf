-- Ranks as values: the longest of all walks of so many steps, and how long walks are that go down an order.
use Rattle.std.proofs.Common.{◌≡◌, ℕ, zero, suc, ◌+◌, ◌<◌, ◌≤◌, max, List, [], ◌∷◌, length, get_or, map, refl, sym, ap, subst, ◌∙◌, inl, inr, ◌⊎◌, arith, add-one}
use Rattle.std.specs.Prelude.{Contains, All}
use Rattle.std.proofs.lemmas.Bool.{cases_lt}
use Rattle.std.proofs.lemmas.List.{length-map, get_or-map, get_or_past}
use Rattle.std.proofs.lemmas.List.Elements.{All-contains}
use Rattle.dependency_graph.specs.Order.{providers, Walk, IsRank, AllAreUnits, Placed, IsOrder, AreProvidersFirst}
use Rattle.dependency_graph.specs.Ordered.{above, rank_within, rank_of}
use Rattle.dependency_graph.proofs.Walks.{member_cases}

-- ---- elements

pub first_in : {X : Type 0} (x : X) (xs : List X) → Contains (x ∷ xs) x
first_in x xs = (0, omega arith, refl)

pub later_in : {X : Type 0} (x : X) (xs : List X) (y : X) → Contains xs y → Contains (x ∷ xs) y
later_in x xs y c = let lt : c.0 < length xs = c.1 in (suc c.0, omega arith, c.2)

pub none_in : {X : Type 0} (x : X) → Contains [] x → ⊥
none_in x c = let lt : c.0 < 0 = c.1 in absurd (omega arith)

-- ---- the greatest rank

above_most : (f : ℕ → ℕ) (list : List ℕ) (unit : ℕ) → Contains list unit → f unit + 1 ≤ above (map f list)
above_most f [] unit c = absurd (none_in unit c)
above_most f (x ∷ list) unit c = elim (member_cases x list unit c) [
  | inl same ↦ let e : f x ≡ f unit = ap f same in omega arith
  | inr more ↦ let h = above_most f list unit more in omega (arith, h)
]

-- a unit of a list that has the greatest rank
pub record Greatest (f : ℕ → ℕ) (list : List ℕ) : Type 0 where
  pub unit : ℕ
  pub among : Contains list unit
  pub is : above (map f list) ≡ f unit + 1

above_one : (f : ℕ → ℕ) (list : List ℕ) → (above (map f list) ≡ 0) ⊎ Greatest f list
above_one f [] = inl refl
above_one f (x ∷ list) = elim (above_one f list) [
  | inl none ↦ inr (record { unit = x; among = first_in x list; is = omega arith })
  | inr more ↦ elim (cases_lt (f x) (f more.unit)) [
    | inl less ↦ inr (record {
      unit = more.unit;
      among = later_in x list more.unit more.among;
      is = let e = more.is in
          omega (arith, e);
    })
    | inr later ↦ inr (record { unit = x; among = first_in x list; is = let e = more.is in omega (arith, e) })
  ]
]

-- ---- ranks

reached_by : (edges : List (List ℕ)) (unit : ℕ) (f : ℕ → ℕ) → ((v : ℕ) → (last : ℕ) × Walk edges (f v) v last)
    → (above (map f (providers edges unit)) ≡ 0) ⊎ Greatest f (providers edges unit)
    → (last : ℕ) × Walk edges (above (map f (providers edges unit))) unit last
reached_by edges unit f below (inl none) = (unit, subst (λ n. Walk edges n unit unit) (sym none) refl)
reached_by edges unit f below (inr some) =
    let rest = below some.unit in (
      rest.0,
      subst (λ n. Walk edges n unit rest.0) (sym (some.is ∙ add-one (f some.unit)))
          (some.unit, some.among, rest.1),
    )

-- there is a walk as long as the rank
pub rank_reached : (edges : List (List ℕ)) (steps unit : ℕ)
    → (last : ℕ) × Walk edges (rank_within edges steps unit) unit last
rank_reached edges zero unit = (unit, refl)
rank_reached edges (suc steps) unit =
    reached_by edges unit (λ v. rank_within edges steps v) (λ v. rank_reached edges steps v)
    (above_one (λ v. rank_within edges steps v) (providers edges unit))

-- no walk of so many steps is longer
pub rank_longest : (edges : List (List ℕ)) (steps unit walk last : ℕ) → walk ≤ steps → Walk edges walk unit last
    → walk ≤ rank_within edges steps unit
rank_longest edges steps unit zero last short way = omega arith
rank_longest edges zero unit (suc walk) last short way = absurd (omega arith)
rank_longest edges (suc steps) unit (suc walk) last short (next, edge, rest) =
    let below : walk ≤ rank_within edges steps next = rank_longest edges steps next walk last (omega arith) rest in
    let most = above_most (λ v. rank_within edges steps v) (providers edges unit) next edge in
    omega (arith, below, most)

-- the rank of a unit, by steps enough
pub rank_is : (edges : List (List ℕ)) (unit rank steps : ℕ) → IsRank edges unit rank → rank ≤ steps
    → rank_within edges steps unit ≡ rank
rank_is edges unit rank steps is enough =
    let found = rank_reached edges steps unit in
    let most = is.longest (rank_within edges steps unit) found.0 found.1 in
    let least = rank_longest edges steps unit rank is.reached.0 enough is.reached.1 in
    omega (arith, most, least)

-- ---- down an order

-- a provider is a unit
pub provider_known : (edges : List (List ℕ)) (unit next : ℕ) → AllAreUnits edges → Contains (providers edges unit) next
    → next < length edges
provider_known edges unit next units edge = elim (cases_lt unit (length edges)) [
  | inl known ↦ All-contains (λ v. v < length edges) (providers edges unit) next (units unit [] known) edge
  | inr past ↦ absurd (none_in next (subst (λ list. Contains list next) (get_or_past edges unit [] past) edge))
]

-- a walk from a unit of an order isn't longer than its place
walk_down : (names edges : List (List ℕ)) (order : List Placed) → length edges ≡ length names → AllAreUnits edges
    → IsOrder names edges order → AreProvidersFirst edges order → (walk unit last : ℕ) → Walk edges walk unit last
    → (at : ℕ) (d : Placed) → at < length order → (get_or order at d).unit ≡ unit → walk ≤ at
walk_down names edges order same units is first zero unit last way at d within here = omega arith
walk_down names edges order same units is first (suc walk) unit last (next, edge, rest) at d within here =
    let known : next < length names = let k = provider_known edges unit next units edge in omega (arith, k, same) in
    let stands = is.every next known in
    let place : stands.0 < length order = let l = stands.1 in
    omega (arith, l, length-map order (λ (p : Placed). p.unit)) in
    let there : (get_or order stands.0 d).unit ≡ next =
    sym (get_or-map (λ (p : Placed). p.unit) order stands.0 d next place) ∙ stands.2 in
    let before : stands.0 < at =
    first at stands.0 d within place
    (subst (λ u. Contains (providers edges u) (get_or order stands.0 d).unit) (sym here)
    (subst (Contains (providers edges unit)) (sym there) edge)) in
    let less = walk_down names edges order same units is first walk next last rest stands.0 d place there in
    omega (arith, before, less)

-- the ranks of an order are those values
pub ranks_are : (names edges : List (List ℕ)) (order : List Placed) → length edges ≡ length names → AllAreUnits edges
    → IsOrder names edges order → AreProvidersFirst edges order
    → All (λ p. p.rank ≡ rank_of edges p.unit) order
unfolding rank_of
ranks_are names edges order same units is first k d within =
    let p = get_or order k d in
    let rank = is.ranks k d within in
    let low = walk_down names edges order same units is first p.rank p.unit rank.reached.0 rank.reached.1 k d within
    refl in
    let count = is.counted in
    sym (rank_is edges p.unit p.rank (length edges) rank (omega (arith, low, within, same, count)))
