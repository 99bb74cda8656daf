-- The value of the nearest cycle is the reported cycle.
use Rattle.std.proofs.Common.{◌≡◌, ◌≢◌, ◌∙◌, inl, inr, sym, ap, ap₂, refl, subst, ℕ, zero, suc, ◌<◌, ◌≤◌, ◌==◌, ◌||◌, Bool, true, false, cond, List, [], ◌∷◌, length, Option, Some, None, unwrap_or, is_some, arith, eqb-true}
use borrow.Author.Tests.{eqb-false}
use Rattle.std.specs.Prelude.{Contains, filter, option_map}
use Rattle.std.specs.List.{list_any}
use Rattle.std.specs.Ordering.{is_gt, is_lt, MatchOrdering, nat_cmp, ordering_reverse, ordering_then}
use Rattle.std.specs.declared.cmp.Ordering.{Ordering}
use Rattle.std.specs.declared.cmp.Ordering.TheVariants.{Less, Equal, Greater}
use Rattle.std.specs.Cmp.{IsTotalOrder, nat_cmp_total}
use Rattle.std.specs.Cmp.Lexicographic.{slice_cmp, nat_list_cmp_total}
use Rattle.std.proofs.lemmas.Bool.{cases_Bool}
use Rattle.std.proofs.lemmas.Cmp.{on_total, ranked, then_total, tied_itself, upto}
use Rattle.dependency_graph.specs.Order.{AllAreUnits, Walk, name_of, providers}
use Rattle.dependency_graph.specs.Cycle.{HasNoCycle, IsLeastOnCycle, IsNearest, IsNearestCycle, IsOnCycle, IsWayBack}
use Rattle.dependency_graph.specs.Ordered.{best, better, distance_to, has_way, least_on_cycle, nearest_cycle, nearest_provider, then_on, units, way_back, way_within}
use Rattle.dependency_graph.proofs.OrderValue.{numbers_in}
use Rattle.dependency_graph.proofs.RankValues.{first_in, later_in, none_in, provider_known}
use Rattle.dependency_graph.proofs.Walks.{member_cases, user_known}
use Rattle.order_laws.proofs.Ways.{near_of, some_of, walk_of}
use Rattle.order_laws.specs.Laws.{AreUnits}

-- ---- what passes a test

kept : (p : ℕ → Bool) (xs : List ℕ) (x : ℕ) → Contains xs x → p x ≡ true → Contains (filter p xs) x
kept p [] x c passes = absurd (none_in x c)
kept p (z ∷ zs) x c passes = elim (cases_Bool (p z)) [
  | inl is ↦ subst (λ b. Contains (cond b (z ∷ filter p zs) (filter p zs)) x) (sym is)
      (elim (member_cases z zs x c) [
        | inl same ↦ subst (Contains (z ∷ filter p zs)) same (first_in z (filter p zs))
        | inr more ↦ later_in z (filter p zs) x (kept p zs x more passes)
      ])
  | inr fails ↦ subst (λ b. Contains (cond b (z ∷ filter p zs) (filter p zs)) x) (sym fails)
      (elim (member_cases z zs x c) [
        | inl same ↦ absurd (let clash : true ≡ false = sym passes ∙ ap p (sym same) ∙ fails in cc)
        | inr more ↦ kept p zs x more passes
      ])
]

left_is : (p : ℕ → Bool) (xs : List ℕ) (x : ℕ) → Contains (filter p xs) x → Contains xs x × (p x ≡ true)
left_is p [] x c = absurd (none_in x c)
left_is p (z ∷ zs) x c = elim (cases_Bool (p z)) [
  | inl is ↦ elim (member_cases z (filter p zs) x
      (subst (λ b. Contains (cond b (z ∷ filter p zs) (filter p zs)) x) is c)) [
        | inl same ↦ (subst (Contains (z ∷ zs)) same (first_in z zs), ap p (sym same) ∙ is)
        | inr more ↦ let rest = left_is p zs x more in (later_in z zs x rest.0, rest.1)
      ]
  | inr fails ↦
      let rest = left_is p zs x (subst (λ b. Contains (cond b (z ∷ filter p zs) (filter p zs)) x) fails c) in
      (later_in z zs x rest.0, rest.1)
]

some_passes : (p : ℕ → Bool) (xs : List ℕ) → list_any p xs ≡ true → (x : ℕ) × Contains xs x × (p x ≡ true)
some_passes p [] h = cc
some_passes p (z ∷ zs) h = elim (cases_Bool (p z)) [
  | inl is ↦ (z, first_in z zs, is)
  | inr fails ↦
      let rest = some_passes p zs (sym (ap (λ b. b || list_any p zs) fails) ∙ h) in
      (rest.0, later_in z zs rest.0 rest.1, rest.2)
]

or_true : (b : Bool) → (b || true) ≡ true
or_true true = refl
or_true false = refl

passes_some : (p : ℕ → Bool) (xs : List ℕ) (x : ℕ) → Contains xs x → p x ≡ true → list_any p xs ≡ true
passes_some p [] x c passes = absurd (none_in x c)
passes_some p (z ∷ zs) x c passes = elim (member_cases z zs x c) [
  | inl same ↦ ap (λ b. b || list_any p zs) (ap p same ∙ passes)
  | inr more ↦ ap (λ b. p z || b) (passes_some p zs x more passes) ∙ or_true (p z)
]

-- ---- the best of units

-- of these units one comes behind no other
abbrev Leads : {K : Type 0} → (K → K → Ordering) → (ℕ → K) → List ℕ → ℕ → Type 0
Leads cmp key xs x = Contains xs x × ((y : ℕ) → Contains xs y → is_gt (cmp (key x) (key y)) ≡ false)

behind_not : (r : Ordering) → is_lt r ≡ true → is_gt r ≡ false
behind_not Less h = refl
behind_not Equal h = cc
behind_not Greater h = cc

turned : (r : Ordering) → is_lt r ≡ false → is_gt (ordering_reverse r) ≡ false
turned Less h = cc
turned Equal h = refl
turned Greater h = refl

module _ {K : Type 0} (cmp : K → K → Ordering) (total : IsTotalOrder cmp) (key : ℕ → K) where
  abbrev before : ℕ → ℕ → Bool
  before a b = is_lt (cmp (key a) (key b))

  itself : (x y : ℕ) → x ≡ y → is_gt (cmp (key x) (key y)) ≡ false
  itself x y same =
      ap (λ z. is_gt (cmp (key x) (key z))) (sym same) ∙ ap is_gt (tied_itself total (key x))

  best_leads : (z : ℕ) (zs : List ℕ) → Leads cmp key (z ∷ zs) (better before z (best before zs))
  best_leads z [] = (
    first_in z [],
    λ y c. elim (member_cases z [] y c)
        [ inl same ↦ itself z y same | inr more ↦ absurd (none_in y more) ],
  )
  best_leads z (w ∷ ws) =
      let rest = best_leads w ws in
      let other = better before w (best before ws) in
      elim (cases_Bool (before other z)) [
        | inl less ↦ subst (λ b. Leads cmp key (z ∷ w ∷ ws) (cond b other z)) (sym less) (
          later_in z (w ∷ ws) other rest.0,
          λ y c. elim (member_cases z (w ∷ ws) y c) [
            | inl same ↦ subst (λ v. is_gt (cmp (key other) (key v)) ≡ false) same
                (behind_not (cmp (key other) (key z)) less)
            | inr more ↦ rest.1 y more
          ],
        )
        | inr not_less ↦ subst (λ b. Leads cmp key (z ∷ w ∷ ws) (cond b other z)) (sym not_less) (
          first_in z (w ∷ ws),
          λ y c. elim (member_cases z (w ∷ ws) y c) [
            | inl same ↦ itself z y same
            | inr more ↦ upto total (key z) (key other) (key y)
                (ap is_gt (total.antisymm (key z) (key other)) ∙ turned (cmp (key other) (key z)) not_less)
                (rest.1 y more)
          ],
        )
      ]

  leads : (xs : List ℕ) (x : ℕ) → best before xs ≡ Some x → Leads cmp key xs x
  leads [] x is = cc
  leads (z ∷ zs) x is =
      let same : better before z (best before zs) ≡ x = cc in
      subst (Leads cmp key (z ∷ zs)) same (best_leads z zs)

  some_best : (xs : List ℕ) (x : ℕ) → Contains xs x → (y : ℕ) × (best before xs ≡ Some y)
  some_best [] x c = absurd (none_in x c)
  some_best (z ∷ zs) x c = (better before z (best before zs), refl)

-- ---- the least unit on a cycle

abbrev on_cycle : List (List ℕ) → ℕ → Bool
on_cycle edges unit = list_any (has_way edges unit) (providers edges unit)

cycle_of : (edges : List (List ℕ)) (unit : ℕ) → on_cycle edges unit ≡ true → IsOnCycle edges unit
cycle_of edges unit h =
    let next = some_passes (has_way edges unit) (providers edges unit) h in
    let way = some_of (distance_to edges unit next.0) next.2 in
    (way.0, (next.0, next.1, walk_of edges unit next.0 way.0 way.1))

of_cycle : (edges : List (List ℕ)) (unit : ℕ) → AllAreUnits edges → IsOnCycle edges unit → on_cycle edges unit ≡ true
of_cycle edges unit all (steps, (next, edge, way)) =
    passes_some (has_way edges unit) (providers edges unit) next edge
    (ap is_some (near_of edges unit next steps all (provider_known edges unit next all edge) way).is)

-- a unit on a cycle is among those that are looked at
among : (names edges : List (List ℕ)) (unit : ℕ) → length edges ≡ length names → AllAreUnits edges
    → IsOnCycle edges unit → Contains (filter (on_cycle edges) (units names)) unit
among names edges unit same all (steps, (next, edge, way)) =
    let known = user_known edges unit next edge in
    kept (on_cycle edges) (units names) unit
    (numbers_in (length names) 0 unit (omega arith) (omega (arith, known, same)))
    (of_cycle edges unit all (steps, (next, edge, way)))

least_of : (names edges : List (List ℕ)) (unit : ℕ) → length edges ≡ length names → AllAreUnits edges
    → least_on_cycle names edges ≡ Some unit → IsLeastOnCycle names edges unit
least_of names edges unit same all is =
    let first = leads (slice_cmp nat_cmp) nat_list_cmp_total (name_of names)
    (filter (on_cycle edges) (units names)) unit is in
    record {
      on = cycle_of edges unit (left_is (on_cycle edges) (units names) unit first.0).1;
      least = λ other on. first.1 other (among names edges other same all on);
    }

some_least : (names edges : List (List ℕ)) (unit : ℕ) → length edges ≡ length names → AllAreUnits edges
    → IsOnCycle edges unit → (least : ℕ) × (least_on_cycle names edges ≡ Some least)
some_least names edges unit same all on =
    some_best (slice_cmp nat_cmp) nat_list_cmp_total (name_of names) (filter (on_cycle edges) (units names)) unit
    (among names edges unit same all on)

-- ---- the nearest provider

-- how far a unit is, and its name
abbrev Key : Type 0
Key = ℕ × List ℕ

abbrev key_cmp : Key → Key → Ordering
key_cmp a b = ordering_then (nat_cmp a.0 b.0) (slice_cmp nat_cmp a.1 b.1)

keys_total : IsTotalOrder key_cmp
keys_total =
    then_total (on_total (λ (k : Key). k.0) nat_cmp_total) (on_total (λ (k : Key). k.1) nat_list_cmp_total)

abbrev key_of : List (List ℕ) → List (List ℕ) → ℕ → ℕ → Key
key_of names edges goal unit = (unwrap_or (distance_to edges goal unit) 0, name_of names unit)

no_farther_by : (near far : ℕ) (r o : Ordering) → MatchOrdering r (near < far) (near ≡ far) (far < near)
    → is_gt (ordering_then r o) ≡ false → near ≤ far
no_farther_by near far Less o says h = omega (arith, says)
no_farther_by near far Equal o says h = omega (arith, says)
no_farther_by near far Greater o says h = cc

no_farther : (near far : ℕ) (o : Ordering) → is_gt (ordering_then (nat_cmp near far) o) ≡ false → near ≤ far
no_farther near far o h = no_farther_by near far (nat_cmp near far) o (ranked near far (nat_cmp near far) refl) h

then_names : (d : ℕ) (o : Ordering) → is_gt (ordering_then (nat_cmp d d) o) ≡ false → is_gt o ≡ false
then_names d o h = sym (ap (λ r. is_gt (ordering_then r o)) (tied_itself nat_cmp_total d)) ∙ h

nearest_of : (names edges : List (List ℕ)) (goal unit next : ℕ) → AllAreUnits edges
    → nearest_provider names edges goal unit ≡ Some next → IsNearest names edges goal unit next
nearest_of names edges goal unit next all is =
    let first = leads key_cmp keys_total (key_of names edges goal)
    (filter (has_way edges goal) (providers edges unit)) next is in
    let here = left_is (has_way edges goal) (providers edges unit) next first.0 in
    let way = some_of (distance_to edges goal next) here.1 in
    let d = way.0 in
    let compared : (other e : ℕ) → Contains (providers edges unit) other → distance_to edges goal other ≡ Some e
    → is_gt (ordering_then (nat_cmp d e) (slice_cmp nat_cmp (name_of names next) (name_of names other))) ≡ false =
    λ other e edge far.
    sym (ap₂ (λ a b. is_gt (ordering_then (nat_cmp (unwrap_or a 0) (unwrap_or b 0))
    (slice_cmp nat_cmp (name_of names next) (name_of names other)))) way.1 far)
    ∙ first.1 other (kept (has_way edges goal) (providers edges unit) other edge (ap is_some far)) in
    record {
      provider = here.0;
      distance = d;
      way = walk_of edges goal next d way.1;
      nearest = λ other steps edge walk.
          let near = near_of edges goal other steps all (provider_known edges unit other all edge) walk in
          let low = near.low in
          let less = no_farther d near.distance (slice_cmp nat_cmp (name_of names next) (name_of names other))
          (compared other near.distance edge near.is) in
          omega (arith, low, less);
      least = λ other edge walk.
          let near = near_of edges goal other d all (provider_known edges unit other all edge) walk in
          let low = near.low in
          let order = slice_cmp nat_cmp (name_of names next) (name_of names other) in
          let less = no_farther d near.distance order (compared other near.distance edge near.is) in
          let same : near.distance ≡ d = omega (arith, low, less) in
          then_names d order (compared other d edge (near.is ∙ ap Some same));
    }

some_nearest : (names edges : List (List ℕ)) (goal unit next walk : ℕ) → AllAreUnits edges
    → Contains (providers edges unit) next → Walk edges walk next goal
    → (near : ℕ) × (nearest_provider names edges goal unit ≡ Some near)
some_nearest names edges goal unit next walk all edge way =
    some_best key_cmp keys_total (key_of names edges goal) (filter (has_way edges goal) (providers edges unit)) next
    (kept (has_way edges goal) (providers edges unit) next edge
    (ap is_some (near_of edges goal next walk all (provider_known edges unit next all edge) way).is))

-- ---- the way back

-- a way of fewer than so many steps from a provider of a unit to the goal
abbrev HasWay : List (List ℕ) → ℕ → ℕ → ℕ → Type 0
HasWay edges goal steps unit =
    (next : ℕ) × (walk : ℕ) × Contains (providers edges unit) next × Walk edges walk next goal × (walk < steps)

goes_on : (edges : List (List ℕ)) (goal steps unit d : ℕ) → unit ≢ goal → Walk edges d unit goal → d < suc steps
    → HasWay edges goal steps unit
goes_on edges goal steps unit zero away way low = absurd (away way)
goes_on edges goal steps unit (suc d) away (next, edge, way) low = (next, d, edge, way, omega (arith, low))

way_is_back : (names edges : List (List ℕ)) (goal : ℕ) → AllAreUnits edges → (steps unit : ℕ)
    → HasWay edges goal steps unit → IsWayBack names edges goal unit (way_within names edges goal steps unit)
way_is_back names edges goal all zero unit (next, walk, edge, way, low) = absurd (omega (arith, low))
way_is_back names edges goal all (suc steps) unit (next, walk, edge, way, low) =
    let found = some_nearest names edges goal unit next walk all edge way in
    let near = found.0 in
    let is = nearest_of names edges goal unit near all found.1 in
    let no_more = is.nearest next walk edge way in
    let rest : ℕ → List ℕ = λ v. way_within names edges goal steps v in
    subst (λ o. IsWayBack names edges goal unit (then_on goal o rest)) (sym found.1)
    (elim (cases_Bool (near == goal)) [
      | inl here ↦ subst (λ b. IsWayBack names edges goal unit (cond b [] (near ∷ rest near))) (sym here)
          (subst (IsNearest names edges goal unit) (eqb-true near goal here) is)
      | inr away ↦
          let other : near ≢ goal = eqb-false near goal away in
          subst (λ b. IsWayBack names edges goal unit (cond b [] (near ∷ rest near))) (sym away) (
            is,
            other,
            way_is_back names edges goal all steps near
                (goes_on edges goal steps near is.distance other is.way (omega (arith, no_more, low))),
          )
    ])

has_way_back : (edges : List (List ℕ)) (unit : ℕ) → AllAreUnits edges → IsOnCycle edges unit
    → HasWay edges unit (length edges) unit
has_way_back edges unit all (steps, (next, edge, way)) =
    let near = near_of edges unit next steps all (provider_known edges unit next all edge) way in
    (next, near.distance, edge, walk_of edges unit next near.distance near.is, near.short)

-- ---- the cycle

cycle_by : (names edges : List (List ℕ)) (unit : ℕ) → AllAreUnits edges → IsLeastOnCycle names edges unit
    → IsNearestCycle names edges (unit ∷ way_back names edges unit)
unfolding way_back
cycle_by names edges unit all least = (
  least,
  way_is_back names edges unit all (length edges) unit (has_way_back edges unit all least.on),
)

nearest_by : (names edges : List (List ℕ)) (cycle : List ℕ) (o : Option ℕ) → AreUnits names edges
    → least_on_cycle names edges ≡ o → option_map (λ unit. unit ∷ way_back names edges unit) o ≡ Some cycle
    → IsNearestCycle names edges cycle
nearest_by names edges cycle None are is h = cc
nearest_by names edges cycle (Some unit) are is h =
    let same : unit ∷ way_back names edges unit ≡ cycle = cc in
    subst (IsNearestCycle names edges) same
    (cycle_by names edges unit are.known (least_of names edges unit are.lists are.known is))

-- the value is the reported cycle ..
pub value_is_cycle : (names edges : List (List ℕ)) (cycle : List ℕ) → AreUnits names edges
    → nearest_cycle names edges ≡ Some cycle → IsNearestCycle names edges cycle
value_is_cycle names edges cycle are is = nearest_by names edges cycle (least_on_cycle names edges) are refl is

none_by : (names edges : List (List ℕ)) (o : Option ℕ) → AreUnits names edges → least_on_cycle names edges ≡ o
    → option_map (λ unit. unit ∷ way_back names edges unit) o ≡ None → HasNoCycle edges
none_by names edges (Some unit) are is h = cc
none_by names edges None are is h = λ unit on.
    let some = some_least names edges unit are.lists are.known on in
    let clash : ◌≡◌ {A = Option ℕ} None (Some some.0) = sym is ∙ some.1 in
    cc

-- .. and where there is none, no unit lies on a cycle
pub none_is_none : (names edges : List (List ℕ)) → AreUnits names edges → nearest_cycle names edges ≡ None
    → HasNoCycle edges
none_is_none names edges are is = none_by names edges (least_on_cycle names edges) are refl is
