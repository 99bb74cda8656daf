-- Levels of the search for distances, and the distances that it leaves.
use Rattle.std.proofs.Common.{◌≡◌, ℕ, zero, suc, ◌+◌, ◌<◌, ◌≤◌, List, [], ◌∷◌, length, get_or, set, replicate, Option, Some, None, sym, ap, subst, ◌∙◌, inl, inr, arith}
use Rattle.std.specs.Prelude.{Contains, All}
use Rattle.std.proofs.lemmas.Bool.{cases_lt}
use Rattle.std.proofs.lemmas.List.{get_or_past, get_or-replicate, length-replicate, get_or_default, length-set}
use Rattle.std.proofs.lemmas.List.Elements.{Contains-get_or}
use Rattle.dependency_graph.specs.Order.{Walk, AllAreUnits}
use Rattle.dependency_graph.specs.Distances.{AreUsers, Spreads, IsUserOf, IsLevel, AreDistances, distance_of}
use Rattle.dependency_graph.proofs.Walks.{user_known}
use Rattle.dependency_graph.proofs.Spreading.{spread_set}

-- two distances of one unit are one
same_distance : (o : Option ℕ) (a b : ℕ) → o ≡ Some a → o ≡ Some b → a ≡ b
same_distance o a b e f = let g : Some a ≡ Some b = sym e ∙ f in cc

-- a unit with a distance is one of those with a place for it
pub distance_known : (distances : List (Option ℕ)) (unit distance : ℕ) → distance_of distances unit ≡ Some distance →
    unit < length distances
distance_known distances unit distance is =
    elim (cases_lt unit (length distances)) [
      | inl known ↦ known
      | inr past ↦
          let e : None ≡ Some distance = sym (get_or_past distances unit None past) ∙ is in
          let bad : ⊥ = cc in absurd bad
    ]

-- users are units
pub users_units : (edges users : List (List ℕ)) → AreUsers edges users (length edges) → AllAreUnits users
users_units edges users are unit d known at e within =
    let same = get_or_default users unit d [] known in
    let has = subst (λ (l : List ℕ). Contains l (get_or (get_or users unit d) at e)) same
    (Contains-get_or (get_or users unit d) at e within) in
    omega (
      arith,
      are.counted,
      user_known edges (get_or (get_or users unit d) at e) unit
          (are.back unit (get_or (get_or users unit d) at e) has),
    )

-- the units of a level are units
pub level_known : (edges : List (List ℕ)) (goal steps : ℕ) (distances : List (Option ℕ)) (now : List ℕ) (n : ℕ) →
    IsLevel edges goal steps distances now → n ≡ length edges → All (λ unit. unit < n) now
level_known edges goal steps distances now n is same at d within =
    let known = distance_known distances (get_or now at d) steps
    (is.level (get_or now at d) (Contains-get_or now at d within)) in
    omega (arith, known, is.counted)

-- the first walk of the next level goes over a unit of this one
level_near : (edges users : List (List ℕ)) (goal steps : ℕ) (old new : List (Option ℕ)) (now next : List ℕ) →
    AreUsers edges users (length edges) → IsLevel edges goal steps old now →
    Spreads (IsUserOf users now) (steps + 1) old new [] next →
    (unit walk : ℕ) → walk ≤ steps + 1 → Walk edges walk unit goal →
    (distance : ℕ) × (distance_of new unit ≡ Some distance) × (distance ≤ walk)
level_near edges users goal steps old new now next are is spreads unit walk short way =
    elim (cases_lt steps walk) [
      | inr early ↦
          let found = is.near unit walk early way in (found.0, spreads.kept unit found.0 found.1, found.2)
      | inl late ↦
          let same : walk ≡ suc steps = omega arith in
          over (subst (λ k. Walk edges k unit goal) same way) same
    ]
  where
    bound : (distance : ℕ) → walk ≡ suc steps → distance_of new unit ≡ Some distance → distance ≤ walk
    bound distance same noted =
        elim (spreads.fresh unit distance noted) [
          | inl before ↦ let b = is.upto unit distance before in omega (arith, b, same)
          | inr (e, _, _) ↦ omega (arith, e, same)
        ]

    over : Walk edges (suc steps) unit goal → walk ≡ suc steps →
        (distance : ℕ) × (distance_of new unit ≡ Some distance) × (distance ≤ walk)
    over (provider, edge, rest) same =
        let found = is.near provider steps (omega arith) rest in
        elim (cases_lt found.0 steps) [
          | inl nearer ↦
              let more = is.near unit (suc found.0) (omega (arith, nearer)) (
                provider,
                edge,
                is.way provider found.0
                    found.1,
              ) in
              (more.0, spreads.kept unit more.0 more.1, omega (arith, more.2, nearer))
          | inr level ↦
              let e : found.0 ≡ steps = omega (arith, found.2, level) in
              let at = is.front provider (found.1 ∙ ap Some e) in
              let met = spreads.met unit
              (provider, at, are.all provider unit (user_known edges unit provider edge) edge) in
              (met.0, met.1, bound met.0 same met.1)
        ]

-- the next level
pub level_more : (edges users : List (List ℕ)) (goal steps : ℕ) (old new : List (Option ℕ)) (now next : List ℕ) →
    AreUsers edges users (length edges) → IsLevel edges goal steps old now →
    Spreads (IsUserOf users now) (steps + 1) old new [] next → IsLevel edges goal (steps + 1) new next
level_more edges users goal steps old new now next are is spreads = record {
  counted = spreads.counted ∙ is.counted;
  way = λ unit distance noted.
      elim (spreads.fresh unit distance noted) [
        | inl before ↦ is.way unit distance before
        | inr (e, of, _) ↦
            let same : distance ≡ suc steps = omega (arith, e) in
            subst (λ k. Walk edges k unit goal) (sym same)
            (of.0, are.back of.0 unit of.2, is.way of.0 steps (is.level of.0 of.1))
      ];
  upto = λ unit distance noted.
      elim (spreads.fresh unit distance noted)
      [ inl before ↦ let b = is.upto unit distance before in omega (arith, b) | inr (e, _, _) ↦ omega (arith, e) ];
  near = level_near edges users goal steps old new now next are is spreads;
  front = λ unit noted.
      elim (spreads.fresh unit (steps + 1) noted)
      [ inl before ↦ let b = is.upto unit (steps + 1) before in absurd (omega (arith, b)) | inr (_, _, has) ↦ has ];
  level = λ unit has.
      elim (spreads.marked unit has) [ inl none ↦ absurd (omega (arith, none.1)) | inr noted ↦ noted ];
}

-- once a level is empty all distances are noted
pub levels_end : (edges : List (List ℕ)) (goal steps : ℕ) (distances : List (Option ℕ)) →
    IsLevel edges goal steps distances [] → AreDistances edges goal distances
levels_end edges goal steps distances is = record {
  counted = is.counted;
  way = is.way;
  near = λ unit walk. near walk
      unit;
}
  where
    near : (walk unit : ℕ) → Walk edges walk unit goal →
        (distance : ℕ) × (distance_of distances unit ≡ Some distance) × (distance ≤ walk)
    near zero unit way = is.near unit 0 (omega arith) way
    near (suc walk) unit (provider, edge, rest) =
        let found = near walk provider rest in
        elim (cases_lt found.0 steps) [
          | inl nearer ↦
              let more = is.near unit (suc found.0) (omega (arith, nearer)) (
                provider,
                edge,
                is.way provider found.0
                    found.1,
              ) in
              (more.0, more.1, omega (arith, more.2, found.2))
          | inr level ↦
              let top = is.upto provider found.0 found.1 in
              let e : found.0 ≡ steps = omega (arith, top, level) in
              let none = is.front provider (found.1 ∙ ap Some e) in
              absurd (omega (arith, none.1))
        ]

-- no distance is noted at the start
no_distance : (n unit distance : ℕ) → distance_of (replicate n None) unit ≡ Some distance → ⊥
no_distance n unit distance noted =
    let known = distance_known (replicate n None) unit distance noted in
    let e : None ≡ Some distance =
    sym (get_or-replicate n unit None None (omega (arith, length-replicate {A = Option ℕ} n None))) ∙ noted in
    cc

-- the goal alone is at distance 0
pub levels_begin : (edges : List (List ℕ)) (goal : ℕ) (distances : List (Option ℕ)) → goal < length edges →
    distances ≡ replicate (length edges) None → IsLevel edges goal 0 (set distances goal (Some 0)) (goal ∷ [])
levels_begin edges goal distances known is = record {
  counted = length-set distances goal (Some 0) ∙ same;
  way = λ unit distance noted.
      elim (spread.fresh unit distance noted) [
        | inl before ↦ absurd (none unit distance before)
        | inr (e, at, _) ↦ subst (λ k. Walk edges k unit goal) (sym e) at
      ];
  upto = upto;
  near = λ unit walk short way. near unit walk short way;
  front = λ unit noted.
      elim (spread.fresh unit 0 noted) [ inl before ↦ absurd (none unit 0 before) | inr (_, _, has) ↦ has ];
  level = λ unit has.
      elim (spread.marked unit has) [ inl listed ↦ absurd (omega (arith, listed.1)) | inr noted ↦ noted ];
}
  where
    same : length distances ≡ length edges
    same = ap length is ∙ length-replicate (length edges) None

    none : (unit distance : ℕ) → distance_of distances unit ≡ Some distance → ⊥
    none unit distance noted = no_distance (length edges) unit distance (ap (λ l. distance_of l unit) (sym is) ∙ noted)

    open_goal : distance_of distances goal ≡ None
    open_goal = ap (λ l. distance_of l goal) is ∙ get_or-replicate (length edges) goal None None known

    spread : Spreads (λ met. met ≡ goal) 0 distances (set distances goal (Some 0)) [] (goal ∷ [])
    spread = spread_set goal 0 distances [] (omega (arith, same)) open_goal

    upto : (unit distance : ℕ) → distance_of (set distances goal (Some 0)) unit ≡ Some distance → distance ≤ 0
    upto unit distance noted =
        elim (spread.fresh unit distance noted)
        [ inl before ↦ absurd (none unit distance before) | inr (e, _, _) ↦ omega (arith, e) ]

    near : (unit walk : ℕ) → walk ≤ 0 → Walk edges walk unit goal →
        (distance : ℕ) × (distance_of (set distances goal (Some 0)) unit ≡ Some distance) × (distance ≤ walk)
    near unit zero short way = let met = spread.met unit way in (met.0, met.1, upto unit met.0 met.1)
    near unit (suc walk) short way = absurd (omega (arith, short))
