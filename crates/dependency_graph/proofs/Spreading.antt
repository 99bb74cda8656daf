-- Lists of users, and one step and one level of the search for distances.
use Rattle.std.proofs.Common.{◌≡◌, ◌≢◌, ℕ, ◌+◌, ◌<◌, true, cond, List, [], ◌∷◌, ◌++◌, length, get_or, set, Option, Some, None, refl, sym, ap, subst, ◌∙◌, inl, inr, ◌⊎◌, arith}
use Rattle.std.specs.Prelude.{Contains, is_none, count_by}
use Rattle.std.proofs.lemmas.Bool.{cases_eq}
use Rattle.std.proofs.lemmas.List.{get_or-set_same, get_or-set_other, length-set, length_push}
use Rattle.std.proofs.lemmas.List.Elements.{Contains-append_left, Contains-push, Contains-push_cases}
use Rattle.std.proofs.lemmas.List.Sums.{sum_by-set}
use Rattle.dependency_graph.specs.Order.{providers}
use Rattle.dependency_graph.specs.Distances.{AddsUser, AreUsers, Spreads, IsUserOf, distance_of}

-- an element after one element is set
pub set_cases : {X : Type 0} (xs : List X) (at : ℕ) (x d : X) (k : ℕ) → at < length xs →
    ((k ≡ at) × (get_or (set xs at x) k d ≡ x)) ⊎ ((k ≢ at) × (get_or (set xs at x) k d ≡ get_or xs k d))
set_cases xs at x d k within =
    elim (cases_eq k at) [
      | inl same ↦ inl (same, rw same (get_or-set_same xs at x d within))
      | inr other ↦ inr (other, get_or-set_other xs at k x d other)
    ]

-- a user is added to one list, and the others stay
one_added : (users : List (List ℕ)) (unit user : ℕ) → unit < length users → (other : ℕ) (x : ℕ) →
    Contains (providers users other) x →
    Contains (providers (set users unit (providers users unit ++ user ∷ [])) other) x
one_added users unit user within other x has =
    elim (set_cases users unit (providers users unit ++ user ∷ []) [] other within) [
      | inl (same, e) ↦
          subst (λ l. Contains l x) (sym e)
          (Contains-append_left (providers users unit) (user ∷ []) x
          (subst (λ u. Contains (providers users u) x) same has))
      | inr (_, e) ↦ subst (λ l. Contains l x) (sym e) has
    ]

-- one more list has the user
adds_set : (old mid : List (List ℕ)) (list : List ℕ) (user unit : ℕ) → AddsUser old mid list user →
    unit < length mid → AddsUser old (set mid unit (providers mid unit ++ user ∷ [])) (list ++ unit ∷ []) user
adds_set old mid list user unit adds within = record {
  counted = length-set mid unit (providers mid unit ++ user ∷ []) ∙ adds.counted;
  kept = λ other x has. one_added mid unit user within other x (adds.kept other x has);
  made = λ other listed.
      elim (Contains-push_cases list unit other listed) [
        | inl early ↦ one_added mid unit user within other user (adds.made other early)
        | inr same ↦
            subst (λ u. Contains (providers (set mid unit (providers mid unit ++ user ∷ [])) u) user) same
            (subst (λ l. Contains l user)
            (sym (get_or-set_same mid unit (providers mid unit ++ user ∷ []) [] within))
            (Contains-push (providers mid unit) user))
      ];
  only = λ other x has.
      elim (set_cases mid unit (providers mid unit ++ user ∷ []) [] other within) [
        | inl (same, e) ↦
            elim (Contains-push_cases (providers mid unit) user x (subst (λ l. Contains l x) e has)) [
              | inl old_one ↦
                  wider old list user unit other x
                  (adds.only other x (subst (λ u. Contains (providers mid u) x) (sym same) old_one))
              | inr is ↦ inr (sym is, subst (Contains (list ++ unit ∷ [])) (sym same) (Contains-push list unit))
            ]
        | inr (_, e) ↦
            wider old list user unit other x (adds.only other x (subst (λ l. Contains l x) e has))
      ];
}
  where
    wider : (old : List (List ℕ)) (list : List ℕ) (user unit other x : ℕ) →
        Contains (providers old other) x ⊎ ((x ≡ user) × Contains list other) →
        Contains (providers old other) x ⊎ ((x ≡ user) × Contains (list ++ unit ∷ []) other)
    wider old list user unit other x (inl has) = inl has
    wider old list user unit other x (inr (is, listed)) =
        inr (is, Contains-append_left list (unit ∷ []) other listed)

-- the same with the new lists by name
pub adds_one : (old mid new : List (List ℕ)) (list : List ℕ) (user unit : ℕ) → AddsUser old mid list user →
    unit < length old → new ≡ set mid unit (providers mid unit ++ user ∷ []) →
    AddsUser old new (list ++ unit ∷ []) user
adds_one old mid new list user unit adds within is =
    subst (λ l. AddsUser old l (list ++ unit ∷ []) user) (sym is)
    (adds_set old mid list user unit adds (omega (arith, adds.counted)))

-- one more unit is in the lists of its providers
pub users_more : (edges old new : List (List ℕ)) (count : ℕ) (list : List ℕ) → AreUsers edges old count →
    list ≡ providers edges count → AddsUser old new list count → AreUsers edges new (count + 1)
users_more edges old new count list are is adds = record {
  counted = adds.counted ∙ are.counted;
  back = λ unit user has.
      elim (adds.only unit user has) [
        | inl before ↦ are.back unit user before
        | inr (same, listed) ↦
            subst (λ u. Contains (providers edges u) unit) (sym same) (subst (λ l. Contains l unit) is listed)
      ];
  all = λ unit user before edge.
      elim (cases_eq user count) [
        | inl same ↦
            subst (Contains (providers new unit)) (sym same)
            (adds.made unit
            (subst (λ l. Contains l unit) (sym is) (subst (λ u. Contains (providers edges u) unit) same edge)))
        | inr other ↦ adds.kept unit user (are.all unit user (omega arith) edge)
      ];
}

-- a unit that has a distance keeps it
pub spread_none : (unit steps distance : ℕ) (old : List (Option ℕ)) (before : List ℕ) →
    distance_of old unit ≡ Some distance → Spreads (λ met. met ≡ unit) steps old old before before
spread_none unit steps distance old before noted = record {
  counted = refl;
  kept = λ u d is. is;
  fresh = λ u d is. inl is;
  met = λ u same. (distance, ap (distance_of old) same ∙ noted);
  queued = λ u has. has;
  marked = λ u has. inl has;
  fewer = refl;
}

-- a unit that has no distance gets one
pub spread_set : (unit steps : ℕ) (old : List (Option ℕ)) (before : List ℕ) → unit < length old →
    distance_of old unit ≡ None →
    Spreads (λ met. met ≡ unit) steps old (set old unit (Some steps)) before (before ++ unit ∷ [])
spread_set unit steps old before within none = record {
  counted = length-set old unit (Some steps);
  kept = λ u d is.
      elim (set_cases old unit (Some steps) None u within)
      [ inl (same, _) ↦ absurd (clash u d same is) | inr (_, e) ↦ e ∙ is ];
  fresh = λ u d is.
      elim (set_cases old unit (Some steps) None u within) [
        | inl (same, e) ↦
            inr (
              some_same steps d (sym e ∙ is),
              same,
              subst (Contains (before ++ unit ∷ [])) (sym same)
                  (Contains-push before unit),
            )
        | inr (_, e) ↦ inl (sym e ∙ is)
      ];
  met = λ u same. (
    steps,
    ap (distance_of (set old unit (Some steps))) same ∙ get_or-set_same old unit (Some steps)
        None within,
  );
  queued = λ u has. Contains-append_left before (unit ∷ []) u has;
  marked = λ u has.
      elim (Contains-push_cases before unit u has) [
        | inl early ↦ inl early
        | inr same ↦
            inr (ap (distance_of (set old unit (Some steps))) (sym same) ∙ get_or-set_same old unit (Some steps) None
            within)
      ];
  fewer =
      let e = sum_by-set (λ o. cond (is_none o) 1 0) old unit (Some steps) None within in
      let one : is_none (get_or old unit None) ≡ true = ap is_none none in
      let counts = subst (λ b. count_by is_none (set old unit (Some steps)) + cond b 1 0 ≡ count_by is_none old + 0)
      one e in
      omega (arith, counts, length_push before unit);
}
  where
    clash : (u d : ℕ) → u ≡ unit → distance_of old u ≡ Some d → ⊥
    clash u d same is = let e : None ≡ Some d = sym none ∙ ap (distance_of old) (sym same) ∙ is in cc

    some_same : (a b : ℕ) → Some a ≡ Some b → b ≡ a
    some_same a b e = cc

-- the same with the new lists by name
pub spread_one : (unit steps : ℕ) (old new : List (Option ℕ)) (before after : List ℕ) → unit < length old →
    distance_of old unit ≡ None → new ≡ set old unit (Some steps) → after ≡ before ++ unit ∷ [] →
    Spreads (λ met. met ≡ unit) steps old new before after
spread_one unit steps old new before after within none is has =
    subst (λ n. Spreads (λ met. met ≡ unit) steps old n before after) (sym is)
    (subst (Spreads (λ met. met ≡ unit) steps old (set old unit (Some steps)) before) (sym has)
    (spread_set unit steps old before within none))

-- one spread after another
pub spread_then : (P Q R : ℕ → Type 0) (steps : ℕ) (a b c : List (Option ℕ)) (l m n : List ℕ) →
    ((unit : ℕ) → P unit ⊎ Q unit → R unit) → ((unit : ℕ) → R unit → P unit ⊎ Q unit) →
    Spreads P steps a b l m → Spreads Q steps b c m n → Spreads R steps a c l n
spread_then P Q R steps a b c l m n join split first then = record {
  counted = then.counted ∙ first.counted;
  kept = λ u d is. then.kept u d (first.kept u d is);
  fresh = λ u d is.
      elim (then.fresh u d is) [
        | inl early ↦
            elim (first.fresh u d early) [
              | inl old ↦ inl old
              | inr (e, p, has) ↦ inr (e, join u (inl p), then.queued u has)
            ]
        | inr (e, q, has) ↦ inr (e, join u (inr q), has)
      ];
  met = λ u r.
      elim (split u r)
      [ inl p ↦ let found = first.met u p in (found.0, then.kept u found.0 found.1) | inr q ↦ then.met u q ];
  queued = λ u has. then.queued u (first.queued u has);
  marked = λ u has.
      elim (then.marked u has) [
        | inl early ↦
            elim (first.marked u early) [ inl old ↦ inl old | inr is ↦ inr (then.kept u steps is) ]
        | inr is ↦ inr is
      ];
  fewer = then.fewer ∙ first.fewer;
}

-- one more unit of a list
pub spread_more : (steps : ℕ) (a b c : List (Option ℕ)) (l m n : List ℕ) (list : List ℕ) (unit : ℕ) →
    Spreads (Contains list) steps a b l m → Spreads (λ met. met ≡ unit) steps b c m n →
    Spreads (Contains (list ++ unit ∷ [])) steps a c l n
spread_more steps a b c l m n list unit first then =
    spread_then (Contains list) (λ met. met ≡ unit) (Contains (list ++ unit ∷ [])) steps a b c l m n
    (λ u either.
    elim either [
      | inl has ↦ Contains-append_left list (unit ∷ []) u has
      | inr same ↦ subst (Contains (list ++ unit ∷ [])) (sym same) (Contains-push list unit)
    ])
    (λ u has. elim (Contains-push_cases list unit u has) [ inl early ↦ inl early | inr same ↦ inr (sym same) ])
    first then

-- one more unit of which the users are met
pub widen_more : (users : List (List ℕ)) (steps : ℕ) (a b c : List (Option ℕ)) (l m n : List ℕ) (now : List ℕ)
    (unit : ℕ) → Spreads (IsUserOf users now) steps a b l m →
    Spreads (Contains (providers users unit)) steps b c m n →
    Spreads (IsUserOf users (now ++ unit ∷ [])) steps a c l n
widen_more users steps a b c l m n now unit first then =
    spread_then (IsUserOf users now) (Contains (providers users unit)) (IsUserOf users (now ++ unit ∷ [])) steps a b c
    l m n
    (λ u either.
    elim either [
      | inl (x, has, edge) ↦ (x, Contains-append_left now (unit ∷ []) x has, edge)
      | inr edge ↦ (unit, Contains-push now unit, edge)
    ])
    (λ u of.
    elim (Contains-push_cases now unit of.0 of.1) [
      | inl early ↦ inl (of.0, early, of.2)
      | inr same ↦ inr (subst (λ x. Contains (providers users x) u) (sym same) of.2)
    ])
    first then
