-- The distance of a unit as a value is the length of its shortest walk to a goal.
use Rattle.std.proofs.Common.{◌≡◌, ◌⊎◌, ◌∙◌, inl, inr, sym, ap, refl, subst, ℕ, zero, suc, ◌+◌, ◌<◌, ◌≤◌, ◌==◌, true, cond, nat_lt, List, [], ◌∷◌, length, map, Option, Some, None, unwrap_or, is_some, arith, eqb-true, ltb-true, ltb-false, eq-eqb}
use Rattle.std.specs.Prelude.{Contains, option_map}
use Rattle.std.specs.List.{range_with_len}
use Rattle.std.proofs.lemmas.Bool.{cases_Bool, cases_eq}
use Rattle.std.proofs.lemmas.List.{length-map}
use Rattle.dependency_graph.specs.Order.{AllAreUnits, Walk, providers}
use Rattle.dependency_graph.specs.Ordered.{distance_to, distance_within, least, lesser}
use Rattle.dependency_graph.proofs.Counting.{Member, as_long}
use Rattle.dependency_graph.proofs.OrderValue.{numbers_in}
use Rattle.dependency_graph.proofs.RankValues.{first_in, later_in, none_in, provider_known}
use Rattle.dependency_graph.proofs.Walks.{member_cases}
use Rattle.order_laws.proofs.Orders.{length-numbers}

-- ---- the least of distances

-- a number that is there, and no more than another one
pub record Within (o : Option ℕ) (most : ℕ) : Type 0 where
  pub number : ℕ
  pub is : o ≡ Some number
  pub low : number ≤ most

-- a number that is no more than this one is no more than a greater one
within_more : (o : Option ℕ) (low high : ℕ) → low ≤ high → Within o low → Within o high
within_more o low high le w = let l = w.low in record { number = w.number; is = w.is; low = omega (arith, le, l) }

lesser_of : (a b : ℕ) → (lesser (Some a) (Some b) ≡ Some a) × (a ≤ b) ⊎ (lesser (Some a) (Some b) ≡ Some b) × (b ≤ a)
lesser_of a b = elim (cases_Bool (nat_lt b a)) [
  | inl less ↦ let l = ltb-true b a less in
      inr (ap (λ t. cond t (Some b) (Some a)) less, omega (arith, l))
  | inr not_less ↦ let l = ltb-false b a not_less in
      inl (ap (λ t. cond t (Some b) (Some a)) not_less, omega (arith, l))
]

lesser_is : (a b : Option ℕ) (d : ℕ) → lesser a b ≡ Some d → (a ≡ Some d) ⊎ (b ≡ Some d)
lesser_is None b d h = inr h
lesser_is (Some a) None d h = inl h
lesser_is (Some a) (Some b) d h = elim (lesser_of a b) [
  | inl first ↦ inl (sym first.0 ∙ h)
  | inr second ↦ inr (sym second.0 ∙ h)
]

lesser_first : (a b : Option ℕ) (n : ℕ) → a ≡ Some n → Within (lesser a b) n
lesser_first None b n is = cc
lesser_first (Some a) None n is = record { number = n; is = is; low = omega arith }
lesser_first (Some a) (Some b) n is =
    let same : a ≡ n = cc in
    elim (lesser_of a b) [
      | inl first ↦ record { number = a; is = first.0; low = omega (arith, same) }
      | inr second ↦ let l = second.1 in record { number = b; is = second.0; low = omega (arith, same, l) }
    ]

lesser_second : (a b : Option ℕ) (n : ℕ) → b ≡ Some n → Within (lesser a b) n
lesser_second None b n is = record { number = n; is = is; low = omega arith }
lesser_second (Some a) None n is = cc
lesser_second (Some a) (Some b) n is =
    let same : b ≡ n = cc in
    elim (lesser_of a b) [
      | inl first ↦ let l = first.1 in record { number = a; is = first.0; low = omega (arith, same, l) }
      | inr second ↦ record { number = b; is = second.0; low = omega (arith, same) }
    ]

least_is : (f : ℕ → Option ℕ) (list : List ℕ) (d : ℕ) → least (map f list) ≡ Some d
    → (v : ℕ) × Contains list v × (f v ≡ Some d)
least_is f [] d h = cc
least_is f (x ∷ list) d h = elim (lesser_is (f x) (least (map f list)) d h) [
  | inl here ↦ (x, first_in x list, here)
  | inr more ↦ let rest = least_is f list d more in (rest.0, later_in x list rest.0 rest.1, rest.2)
]

least_low : (f : ℕ → Option ℕ) (list : List ℕ) (v n : ℕ) → Contains list v → f v ≡ Some n
    → Within (least (map f list)) n
least_low f [] v n c is = absurd (none_in v c)
least_low f (x ∷ list) v n c is = elim (member_cases x list v c) [
  | inl same ↦ lesser_first (f x) (least (map f list)) n (ap f same ∙ is)
  | inr more ↦
      let rest = least_low f list v n more is in
      within_more (lesser (f x) (least (map f list))) rest.number n rest.low
      (lesser_second (f x) (least (map f list)) rest.number rest.is)
]

-- ---- distances and walks

one_more_is : (o : Option ℕ) (d : ℕ) → option_map (λ n. n + 1) o ≡ Some d → (n : ℕ) × (o ≡ Some n) × (d ≡ suc n)
one_more_is None d h = cc
one_more_is (Some n) d h = let same : n + 1 ≡ d = cc in (n, refl, omega (arith, same))

-- a walk of so many steps, and no more than these
abbrev Goes : List (List ℕ) → ℕ → ℕ → ℕ → ℕ → Type 0
Goes edges goal steps unit d = Walk edges d unit goal × (d ≤ steps)

goes_here : (edges : List (List ℕ)) (goal steps unit d : ℕ) → unit ≡ goal → ◌≡◌ {A = Option ℕ} (Some 0) (Some d)
    → Goes edges goal steps unit d
goes_here edges goal steps unit d here h =
    let none : 0 ≡ d = cc in (subst (λ n. Walk edges n unit goal) none here, omega (arith, none))

pub walk_within : (edges : List (List ℕ)) (goal steps unit d : ℕ) → distance_within edges goal steps unit ≡ Some d
    → Goes edges goal steps unit d
walk_within edges goal zero unit d h = elim (cases_Bool (unit == goal)) [
  | inl here ↦ goes_here edges goal zero unit d (eqb-true unit goal here)
      (sym (ap (λ b. cond b (Some 0) None) here) ∙ h)
  | inr away ↦ absurd (let clash : ◌≡◌ {A = Option ℕ} None (Some d) =
      sym (ap (λ b. cond b (Some 0) None) away) ∙ h in cc)
]
walk_within edges goal (suc steps) unit d h =
    let f : ℕ → Option ℕ = λ v. distance_within edges goal steps v in
    let far : Option ℕ = option_map (λ n. n + 1) (least (map f (providers edges unit))) in
    elim (cases_Bool (unit == goal)) [
      | inl here ↦ goes_here edges goal (suc steps) unit d (eqb-true unit goal here)
          (sym (ap (λ b. cond b (Some 0) far) here) ∙ h)
      | inr away ↦
          let more = one_more_is (least (map f (providers edges unit))) d
          (sym (ap (λ b. cond b (Some 0) far) away) ∙ h) in
          let next = least_is f (providers edges unit) more.0 more.1 in
          let rest = walk_within edges goal steps next.0 more.0 next.2 in
          let low = rest.1 in
          let last = more.2 in (
            subst (λ n. Walk edges n unit goal) (sym last) (next.0, next.1, rest.0),
            omega (arith, low, last),
          )
    ]

at_goal : (edges : List (List ℕ)) (goal steps unit : ℕ) → unit ≡ goal → distance_within edges goal steps unit ≡ Some 0
at_goal edges goal zero unit here = ap (λ b. cond b (Some 0) None) (eq-eqb unit goal here)
at_goal edges goal (suc steps) unit here =
    ap (λ b. cond b (Some 0) (option_map (λ n. n + 1)
    (least (map (λ v. distance_within edges goal steps v) (providers edges unit))))) (eq-eqb unit goal here)

pub within_walk : (edges : List (List ℕ)) (goal steps unit walk : ℕ) → walk ≤ steps → Walk edges walk unit goal
    → Within (distance_within edges goal steps unit) walk
within_walk edges goal steps unit zero short way =
    record { number = 0; is = at_goal edges goal steps unit way; low = omega arith }
within_walk edges goal zero unit (suc walk) short way = absurd (omega (arith, short))
within_walk edges goal (suc steps) unit (suc walk) short (next, edge, rest) =
    let f : ℕ → Option ℕ = λ v. distance_within edges goal steps v in
    let far : Option ℕ = option_map (λ n. n + 1) (least (map f (providers edges unit))) in
    elim (cases_Bool (unit == goal)) [
      | inl here ↦ record { number = 0; is = ap (λ b. cond b (Some 0) far) here; low = omega arith }
      | inr away ↦
          let near = within_walk edges goal steps next walk (omega (arith, short)) rest in
          let most = least_low f (providers edges unit) next near.number edge near.is in
          let low = near.low in
          let lower = most.low in
          record {
            number = most.number + 1;
            is = ap (λ b. cond b (Some 0) far) away ∙ ap (option_map (λ n. n + 1)) most.is;
            low = omega (arith, low, lower);
          }
    ]

-- ---- a distance is below the number of units

one_value : (o : Option ℕ) (a b : ℕ) → o ≡ Some a → o ≡ Some b → a ≡ b
one_value o a b first second = let same : Some a ≡ Some b = sym first ∙ second in cc

-- a unit that has this distance
abbrev Reaches : List (List ℕ) → ℕ → ℕ → ℕ → Type 0
Reaches edges goal steps t =
    (unit : ℕ) × (unit < length edges) × (distance_within edges goal steps unit ≡ Some t)

-- on the way from a unit to the goal stands one of each smaller distance
on_the_way : (edges : List (List ℕ)) (goal steps : ℕ) → AllAreUnits edges → (d unit : ℕ) → unit < length edges
    → distance_within edges goal steps unit ≡ Some d → (t : ℕ) → t ≤ d → Reaches edges goal steps t
on_the_way edges goal steps all zero unit known is t low =
    let same : zero ≡ t = omega (arith, low) in (unit, known, is ∙ ap Some same)
on_the_way edges goal steps all (suc d) unit known is t low = elim (cases_eq t (suc d)) [
  | inl same ↦ (unit, known, is ∙ ap Some (sym same))
  | inr less ↦
      let goes = walk_within edges goal steps unit (suc d) is in
      let way = goes.0 in
      let short = goes.1 in
      let near = within_walk edges goal steps way.0 d (omega (arith, short)) way.2 in
      let back = walk_within edges goal steps way.0 near.number near.is in
      let nearer = near.low in
      let again = within_walk edges goal steps unit (suc near.number) (omega (arith, nearer, short))
      (way.0, way.1, back.0) in
      let low_again = again.low in
      let same = one_value (distance_within edges goal steps unit) (suc d) again.number is again.is in
      let here : near.number ≡ d = omega (arith, nearer, low_again, same) in
      on_the_way edges goal steps all d way.0 (provider_known edges unit way.0 all way.1)
      (near.is ∙ ap Some here) t (omega (arith, low, less))
]

mapped : (f : ℕ → ℕ) (list : List ℕ) (v : ℕ) → Contains list v → Member (map f list) (f v)
mapped f [] v c = absurd (none_in v c)
mapped f (x ∷ list) v c =
    elim (member_cases x list v c) [ inl same ↦ inl (ap f same) | inr more ↦ inr (mapped f list v more) ]

few_steps : (edges : List (List ℕ)) (goal steps unit d : ℕ) → AllAreUnits edges → unit < length edges
    → distance_within edges goal steps unit ≡ Some d → d < length edges
few_steps edges goal steps unit d all known is =
    let number : ℕ → ℕ = λ v. unwrap_or (distance_within edges goal steps v) 0 in
    let list = range_with_len 0 (length edges) in
    let long = as_long (suc d) (map number list) (λ t below.
    let at = on_the_way edges goal steps all d unit known is t (omega (arith, below)) in
    let low = at.1 in
    subst (Member (map number list)) (ap (λ o. unwrap_or o 0) at.2)
    (mapped number list at.0 (numbers_in (length edges) 0 at.0 (omega arith) (omega (arith, low))))) in
    omega (arith, long, length-map list number, length-numbers (length edges) 0)

-- ---- the distance of a unit

-- a unit from which a walk leads to the goal is no farther than that walk, and not as far as there are units
pub record Near (edges : List (List ℕ)) (goal unit walk : ℕ) : Type 0 where
  pub distance : ℕ
  pub is : distance_to edges goal unit ≡ Some distance
  pub low : distance ≤ walk
  pub short : distance < length edges

pub near_of : (edges : List (List ℕ)) (goal unit walk : ℕ) → AllAreUnits edges → unit < length edges
    → Walk edges walk unit goal → Near edges goal unit walk
unfolding distance_to
near_of edges goal unit walk all known way =
    let first = within_walk edges goal walk unit walk (omega arith) way in
    let goes = walk_within edges goal walk unit first.number first.is in
    let short = few_steps edges goal walk unit first.number all known first.is in
    let again = within_walk edges goal (length edges) unit first.number (omega (arith, short)) goes.0 in
    let low = first.low in
    let lower = again.low in
    record {
      distance = again.number;
      is = again.is;
      low = omega (arith, low, lower);
      short = omega (arith, short, lower);
    }

pub walk_of : (edges : List (List ℕ)) (goal unit d : ℕ) → distance_to edges goal unit ≡ Some d → Walk edges d unit goal
unfolding distance_to
walk_of edges goal unit d is = (walk_within edges goal (length edges) unit d is).0

-- a distance that is there
pub some_of : (o : Option ℕ) → is_some o ≡ true → (d : ℕ) × (o ≡ Some d)
some_of None h = cc
some_of (Some d) h = (d, refl)
