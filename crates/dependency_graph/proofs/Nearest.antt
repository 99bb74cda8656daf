-- The nearest of a list's units, the way back to the goal, and the least unit on a cycle.
use Rattle.std.proofs.Common.{◌≡◌, ◌≢◌, ℕ, zero, suc, ◌+◌, ◌<◌, ◌≤◌, Bool, true, false, List, [], ◌∷◌, ◌++◌, length, Option, Some, None, refl, sym, ap, subst, ◌∙◌, inl, inr, arith, unwrap_or}
use Rattle.std.specs.Prelude.{Contains, MatchBool}
use Rattle.std.specs.Cmp.{IsTotalOrder}
use Rattle.std.specs.Ordering.{ordering_then, ordering_reverse, nat_cmp, is_lt, is_gt, MatchOrdering}
use Rattle.std.specs.Cmp.Lexicographic.{slice_cmp, nat_list_cmp_total}
use Rattle.std.specs.declared.cmp.Ordering.{Ordering}
use Rattle.std.specs.declared.cmp.Ordering.TheVariants.{Less, Equal, Greater}
use Rattle.std.proofs.lemmas.Bool.{cases_eq}
use Rattle.std.proofs.lemmas.Cmp.{ranked, upto, tied_itself, then_total, on_total, nat_cmp_total}
use Rattle.dependency_graph.specs.OnCycles.{AreOnCycles, IsLeast, IsLeastFlag, flag_of}
use Rattle.dependency_graph.proofs.Walks.{user_known}
use Rattle.std.proofs.lemmas.List.Elements.{Contains-append_left, Contains-push, Contains-push_cases}
use Rattle.dependency_graph.specs.Order.{providers, name_of, Walk}
use Rattle.dependency_graph.specs.Cycle.{HasCycle, IsLeastOnCycle, IsNearest, IsNotAfter, IsOnCycle}
use Rattle.dependency_graph.specs.Distances.{AreDistances, IsBest, IsFirst, distance_of, is_nearer, key_cmp}

-- the order by distance and name is total
key_total : IsTotalOrder key_cmp
key_total = then_total (on_total (λ (k : ℕ × List ℕ). k.0) nat_cmp_total) (on_total (λ (k : ℕ × List ℕ). k.1)
    nat_list_cmp_total)

-- what is less isn't greater
not_greater : (o : Ordering) → is_lt o ≡ true → is_gt o ≡ false
not_greater Less e = refl
not_greater Equal e = refl
not_greater Greater e = cc

-- what isn't less isn't exceeded
not_exceeded : (o : Ordering) → is_lt o ≡ false → is_gt (ordering_reverse o) ≡ false
not_exceeded Less e = cc
not_exceeded Equal e = refl
not_exceeded Greater e = refl

-- two distances of one unit are one
one_distance : (o : Option ℕ) (a b : ℕ) → o ≡ Some a → o ≡ Some b → a ≡ b
one_distance o a b e f = let g : Some a ≡ Some b = sym e ∙ f in cc

-- a unit isn't greater than itself
itself : (names : List (List ℕ)) (distances : List (Option ℕ)) (unit other near far : ℕ) →
    distance_of distances unit ≡ Some near → unit ≡ other → distance_of distances other ≡ Some far →
    is_gt (key_cmp (near, name_of names unit) (far, name_of names other)) ≡ false
itself names distances unit other near far noted same is =
    let e : near ≡ far = one_distance (distance_of distances other) near far (ap (distance_of distances) (sym same) ∙
    noted) is in
    subst (λ f. is_gt (key_cmp (near, name_of names unit) (f, name_of names other)) ≡ false) e
    (subst (λ u. is_gt (key_cmp (near, name_of names unit) (near, name_of names u)) ≡ false) same
    (ap is_gt (tied_itself key_total (near, name_of names unit))))

-- the first unit with a distance
pub first_only : (names : List (List ℕ)) (distances : List (Option ℕ)) (list : List ℕ) (unit near : ℕ) →
    ((other : ℕ) → Contains list other → distance_of distances other ≡ None) →
    distance_of distances unit ≡ Some near → IsFirst names distances (list ++ unit ∷ []) unit
first_only names distances list unit near none noted = record {
  among = Contains-push list unit;
  distance = near;
  noted = noted;
  first = λ other far has is.
      elim (Contains-push_cases list unit other has) [
        | inl early ↦
            let e : None ≡ Some far = sym (none other early) ∙ is in
            let bad : ⊥ = cc in absurd bad
        | inr same ↦ itself names distances unit other near far noted same is
      ];
}

-- the order of two units with distances
compared : (names : List (List ℕ)) (distances : List (Option ℕ)) (a b near far : ℕ) →
    distance_of distances a ≡ Some near → distance_of distances b ≡ Some far →
    is_nearer names distances a b ≡ is_lt (key_cmp (near, name_of names a) (far, name_of names b))
compared names distances a b near far is has = rw (is, has) refl

-- one more unit that is nearer than the best so far
pub first_new : (names : List (List ℕ)) (distances : List (Option ℕ)) (list : List ℕ) (best unit near : ℕ) →
    IsFirst names distances list best → distance_of distances unit ≡ Some near →
    is_nearer names distances unit best ≡ true → IsFirst names distances (list ++ unit ∷ []) unit
first_new names distances list best unit near is noted nearer = record {
  among = Contains-push list unit;
  distance = near;
  noted = noted;
  first = λ other far has told.
      elim (Contains-push_cases list unit other has) [
        | inl early ↦
            upto key_total (near, name_of names unit) (is.distance, name_of names best) (far, name_of names other)
            (not_greater (key_cmp (near, name_of names unit) (is.distance, name_of names best))
            (sym (compared names distances unit best near is.distance noted is.noted) ∙ nearer))
            (is.first other far early told)
        | inr same ↦ itself names distances unit other near far noted same told
      ];
}

-- one more unit that isn't nearer than the best so far
pub first_kept : (names : List (List ℕ)) (distances : List (Option ℕ)) (list : List ℕ) (best unit near : ℕ) →
    IsFirst names distances list best → distance_of distances unit ≡ Some near →
    is_nearer names distances unit best ≡ false → IsFirst names distances (list ++ unit ∷ []) best
first_kept names distances list best unit near is noted other_nearer = record {
  among = Contains-append_left list (unit ∷ []) best is.among;
  distance = is.distance;
  noted = is.noted;
  first = λ other far has told.
      elim (Contains-push_cases list unit other has) [
        | inl early ↦ is.first other far early told
        | inr same ↦
            let e : near ≡ far = one_distance (distance_of distances other) near far
            (ap (distance_of distances) (sym same) ∙ noted) told in
            let not_less = sym (compared names distances unit best near is.distance noted is.noted) ∙ other_nearer in
            subst (λ f. is_gt (key_cmp (is.distance, name_of names best) (f, name_of names other)) ≡ false) e
            (subst (λ u. is_gt (key_cmp (is.distance, name_of names best) (near, name_of names u)) ≡ false) same
            (ap is_gt (key_total.antisymm (is.distance, name_of names best) (near, name_of names unit))
            ∙ not_exceeded (key_cmp (near, name_of names unit) (is.distance, name_of names best)) not_less))
      ];
}

-- one more unit that has no distance
pub best_kept : (names : List (List ℕ)) (distances : List (Option ℕ)) (list : List ℕ) (best : Option ℕ) (unit : ℕ) →
    IsBest names distances list best → distance_of distances unit ≡ None →
    IsBest names distances (list ++ unit ∷ []) best
best_kept names distances list None unit is none = λ other has.
    elim (Contains-push_cases list unit other has)
    [ inl early ↦ is other early | inr same ↦ ap (distance_of distances) (sym same) ∙ none ]
best_kept names distances list (Some best) unit is none = record {
  among = Contains-append_left list (unit ∷ []) best is.among;
  distance = is.distance;
  noted = is.noted;
  first = λ other far has told.
      elim (Contains-push_cases list unit other has) [
        | inl early ↦ is.first other far early told
        | inr same ↦
            let e : None ≡ Some far = sym none ∙ ap (distance_of distances) same ∙ told in
            let bad : ⊥ = cc in absurd bad
      ];
}

-- the first key that isn't greater has no greater distance
key_le : (near far : ℕ) (r o : Ordering) → MatchOrdering r (near < far) (near ≡ far) (far < near) →
    is_gt (ordering_then r o) ≡ false → near ≤ far
key_le near far Less o says e = omega (arith, says)
key_le near far Equal o says e = omega (arith, says)
key_le near far Greater o says e = cc

-- at one distance the name isn't greater
key_name : (near far : ℕ) (r o : Ordering) → MatchOrdering r (near < far) (near ≡ far) (far < near) → near ≡ far →
    is_gt (ordering_then r o) ≡ false → is_gt o ≡ false
key_name near far Less o says same e = absurd (omega (arith, says, same))
key_name near far Equal o says same e = e
key_name near far Greater o says same e = cc

-- the first of the providers is the nearest to the goal
pub nearest_is : (names edges : List (List ℕ)) (distances : List (Option ℕ)) (goal unit next : ℕ) →
    AreDistances edges goal distances → IsFirst names distances (providers edges unit) next →
    IsNearest names edges goal unit next
nearest_is names edges distances goal unit next are is = record {
  provider = is.among;
  distance = is.distance;
  way = are.way next is.distance is.noted;
  nearest = λ other steps edge way.
      let found = are.near other steps way in
      let le = key_le is.distance found.0 (nat_cmp is.distance found.0)
      (slice_cmp nat_cmp (name_of names next) (name_of names other)) (ranked is.distance found.0 _ refl)
      (is.first other found.0 edge found.1) in
      omega (arith, le, found.2);
  least = λ other edge way.
      let found = are.near other is.distance way in
      let gt = is.first other found.0 edge found.1 in
      let le = key_le is.distance found.0 (nat_cmp is.distance found.0)
      (slice_cmp nat_cmp (name_of names next) (name_of names other)) (ranked is.distance found.0 _ refl) gt in
      key_name is.distance found.0 (nat_cmp is.distance found.0)
      (slice_cmp nat_cmp (name_of names next) (name_of names other)) (ranked is.distance found.0 _ refl)
      (omega (arith, le, found.2)) gt;
}

-- some provider of a unit from which a walk leads to the goal has a distance
pub some_best : (names edges : List (List ℕ)) (distances : List (Option ℕ)) (goal unit : ℕ) →
    AreDistances edges goal distances → (steps : ℕ) × Walk edges (suc steps) unit goal →
    ((other : ℕ) → Contains (providers edges unit) other → distance_of distances other ≡ None) → ⊥
some_best names edges distances goal unit are (steps, (provider, edge, way)) none =
    let found = are.near provider steps way in
    let e : None ≡ Some found.0 = sym (none provider edge) ∙ found.1 in
    cc

-- from the next unit a walk leads on, unless it is the goal
pub way_on : (names edges : List (List ℕ)) (goal unit next : ℕ) → IsNearest names edges goal unit next →
    next ≢ goal → (steps : ℕ) × Walk edges (suc steps) next goal
way_on names edges goal unit next is other = on is.distance is.way
  where
    on : (d : ℕ) → Walk edges d next goal → (steps : ℕ) × Walk edges (suc steps) next goal
    on zero way = absurd (other way)
    on (suc d) way = (d, way)

-- the unit after the next is nearer
pub closer : (names edges : List (List ℕ)) (distances : List (Option ℕ)) (goal unit next after : ℕ) →
    AreDistances edges goal distances → IsNearest names edges goal unit next → next ≢ goal →
    IsNearest names edges goal next after →
    unwrap_or (distance_of distances after) 0 < unwrap_or (distance_of distances next) 0
closer names edges distances goal unit next after are is other then =
    let here = are.near next is.distance is.way in
    let there = are.near after then.distance then.way in
    let less = shorter here.0 (are.way next here.0 here.1) in
    rw (here.1, there.1) (omega (arith, less, there.2))
  where
    shorter : (d : ℕ) → Walk edges d next goal → suc then.distance ≤ d
    shorter zero way = absurd (other way)
    shorter (suc d) (provider, edge, way) = let le = then.nearest provider d edge way in omega (arith, le)

-- one more unit that has no flag
pub least_skip : (names : List (List ℕ)) (flags : List Bool) (unit : ℕ) (least : Option ℕ) →
    flag_of flags unit ≡ false → IsLeastFlag names flags unit least → IsLeastFlag names flags (unit + 1) least
least_skip names flags unit None off is = λ other before.
    elim (cases_eq other unit) [ inl same ↦ ap (flag_of flags) same ∙ off | inr apart ↦ is other (omega arith) ]
least_skip names flags unit (Some found) off is = record {
  known = omega (arith, is.known);
  flagged = is.flagged;
  least = λ other before on.
      elim (cases_eq other unit) [
        | inl same ↦
            let e : true ≡ false = sym on ∙ ap (flag_of flags) same ∙ off in
            let bad : ⊥ = cc in absurd bad
        | inr apart ↦ is.least other (omega arith) on
      ];
}

-- a name isn't after itself
same_name : (names : List (List ℕ)) (unit other : ℕ) → other ≡ unit → IsNotAfter names unit other
same_name names unit other same =
    subst (IsNotAfter names unit) (sym same) (ap is_gt (tied_itself nat_list_cmp_total (name_of names unit)))

-- the first unit with a flag
pub least_only : (names : List (List ℕ)) (flags : List Bool) (unit : ℕ) →
    flag_of flags unit ≡ true → IsLeastFlag names flags unit None → IsLeast names flags (unit + 1) unit
least_only names flags unit flagged none = record {
  known = omega arith;
  flagged = flagged;
  least = λ other before on.
      elim (cases_eq other unit) [
        | inl same ↦ same_name names unit other same
        | inr apart ↦
            let e : true ≡ false = sym on ∙ none other (omega arith) in
            let bad : ⊥ = cc in absurd bad
      ];
}

-- one more unit whose name isn't less
pub least_kept : (names : List (List ℕ)) (flags : List Bool) (unit found : ℕ) → IsLeast names flags unit found →
    is_gt (slice_cmp nat_cmp (name_of names found) (name_of names unit)) ≡ false →
    IsLeast names flags (unit + 1) found
least_kept names flags unit found is not_after = record {
  known = omega (arith, is.known);
  flagged = is.flagged;
  least = λ other before on.
      elim (cases_eq other unit) [
        | inl same ↦ subst (IsNotAfter names found) (sym same) not_after
        | inr apart ↦ is.least other (omega arith) on
      ];
}

-- what is greater isn't less
not_before : (o : Ordering) → is_gt o ≡ true → is_gt (ordering_reverse o) ≡ false
not_before Less e = cc
not_before Equal e = refl
not_before Greater e = refl

-- one more unit whose name is less
pub least_new : (names : List (List ℕ)) (flags : List Bool) (unit found : ℕ) → IsLeast names flags unit found →
    flag_of flags unit ≡ true → is_gt (slice_cmp nat_cmp (name_of names found) (name_of names unit)) ≡ true →
    IsLeast names flags (unit + 1) unit
least_new names flags unit found is flagged after = record {
  known = omega arith;
  flagged = flagged;
  least = λ other before on.
      elim (cases_eq other unit) [
        | inl same ↦ same_name names unit other same
        | inr apart ↦
            upto nat_list_cmp_total (name_of names unit) (name_of names found) (name_of names other)
            (ap is_gt (nat_list_cmp_total.antisymm (name_of names unit) (name_of names found))
            ∙ not_before (slice_cmp nat_cmp (name_of names found) (name_of names unit)) after)
            (is.least other (omega arith) on)
      ];
}

-- the unit that the test says
pub on_true : (b : Bool) (P Q : Type 0) → MatchBool b P Q → b ≡ true → P
on_true true P Q is e = is
on_true false P Q is e = cc

-- the unit that the test denies
pub on_false : (b : Bool) (P Q : Type 0) → MatchBool b P Q → b ≡ false → Q
on_false true P Q is e = cc
on_false false P Q is e = is

-- where there is a cycle some unit has a flag
pub some_flag : (edges : List (List ℕ)) (flags : List Bool) (n : ℕ) → AreOnCycles edges flags (length edges) →
    length edges ≡ n → HasCycle edges → ((unit : ℕ) → unit < n → flag_of flags unit ≡ false) → ⊥
some_flag edges flags n are same (unit, (steps, way)) none =
    let known = user_known edges unit way.0 way.1 in
    are.off unit known (none unit (omega arith)) (steps, way)

-- the least unit with a flag is the least on a cycle
pub least_is : (names edges : List (List ℕ)) (flags : List Bool) (n unit : ℕ) → AreOnCycles edges flags (length edges) →
    length edges ≡ n → IsLeast names flags n unit → IsLeastOnCycle names edges unit
least_is names edges flags n unit are same is = record {
  on = are.on unit is.flagged;
  least = λ other on.
      let known = user_known edges other on.1.0 on.1.1 in
      is.least other (omega arith) (flagged other known on);
}
  where
    decide : (b : Bool) → (b ≡ false → ⊥) → b ≡ true
    decide true clash = refl
    decide false clash = absurd (clash refl)

    flagged : (other : ℕ) → other < length edges → IsOnCycle edges other → flag_of flags other ≡ true
    flagged other known on = decide (flag_of flags other) (λ clear. are.off other known clear on)
