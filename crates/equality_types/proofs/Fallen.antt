-- Steps of the search for the greatest choice.
use Rattle.std.proofs.Common.{◌≡◌, ◌≢◌, ℕ, ◌+◌, ◌<◌, Bool, true, false, List, [], ◌∷◌, ◌++◌, length, set, refl, sym, ap, subst, ◌∙◌, inl, inr, ◌⊎◌, cond, replicate, arith}
use Rattle.std.specs.Prelude.{Contains, count_by}
use Rattle.std.proofs.lemmas.Bool.{cases_eq, cases_lt}
use Rattle.std.proofs.lemmas.List.{get_or-set_same, get_or-set_other, length-set, length_push, length-replicate, get_or-replicate, get_or_past}
use Rattle.std.proofs.lemmas.List.Elements.{Contains-append_left, Contains-push, Contains-push_cases}
use Rattle.std.proofs.lemmas.List.Sums.{sum_by-set}
use Rattle.equality_types.specs.Choices.{admits_by, is_barred, holders_of, IsGreatest}
use Rattle.equality_types.specs.Falling.{Falls, IsFalling}

-- an element after one element is set
set_cases : (xs : List Bool) (at : ℕ) (x : Bool) (k : ℕ) → at < length xs →
    ((k ≡ at) × (admits_by (set xs at x) k ≡ x)) ⊎ ((k ≢ at) × (admits_by (set xs at x) k ≡ admits_by xs k))
set_cases xs at x k within = elim (cases_eq k at) [
  | inl same ↦ inl (same, rw same (get_or-set_same xs at x false within))
  | inr other ↦ inr (other, get_or-set_other xs at k x false other)
]

-- ---- one type and more of them

-- a type that didn't admit equality before
pub falls_none : (at : ℕ) (old : List Bool) (before : List ℕ) → admits_by old at ≡ false
    → Falls (λ met. met ≡ at) old old before before
falls_none at old before is = record {
  counted = refl;
  fewer = λ u h. h;
  fresh = λ u h. inl h;
  met = λ u same. ap (admits_by old) same ∙ is;
  queued = λ u has. has;
  marked = λ u has. inl has;
  steps = refl;
}

falls_set : (at : ℕ) (old : List Bool) (before : List ℕ) → at < length old → admits_by old at ≡ true
    → Falls (λ met. met ≡ at) old (set old at false) before (before ++ at ∷ [])
falls_set at old before within is = record {
  counted = length-set old at false;
  fewer = λ u h. elim (set_cases old at false u within) [
    | inl (same, e) ↦ absurd (let bad : false ≡ true = sym e ∙ h in let no : ⊥ = cc in no)
    | inr (_, e) ↦ sym e ∙ h
  ];
  fresh = λ u h. elim (set_cases old at false u within) [
    | inl (same, _) ↦ inr (same, subst (Contains (before ++ at ∷ [])) (sym same) (Contains-push before at))
    | inr (_, e) ↦ inl (e ∙ h)
  ];
  met = λ u same. ap (admits_by (set old at false)) same ∙ get_or-set_same old at false false within;
  queued = λ u has. Contains-append_left before (at ∷ []) u has;
  marked = λ u has. elim (Contains-push_cases before at u has) [
    | inl early ↦ inl early
    | inr same ↦ inr (
      subst (λ k. k < length (set old at false)) same (omega (arith, length-set old at false)),
      ap (admits_by (set old at false)) (sym same) ∙ get_or-set_same old at false false within,
    )
  ];
  steps =
      let e = sum_by-set (λ b. cond b 1 0) old at false false within in
      let counts = subst (λ b. count_by (λ c. c) (set old at false) + cond b 1 0 ≡ count_by (λ c. c) old + 0) is e in
      omega (arith, counts, length_push before at);
}

-- the same with the new lists by name
pub falls_one : (at : ℕ) (old new : List Bool) (before after : List ℕ) → at < length old → admits_by old at ≡ true
    → new ≡ set old at false → after ≡ before ++ at ∷ [] → Falls (λ met. met ≡ at) old new before after
falls_one at old new before after within is set_is pushed =
    subst (λ n. Falls (λ met. met ≡ at) old n before after) (sym set_is)
    (subst (Falls (λ met. met ≡ at) old (set old at false) before) (sym pushed) (falls_set at old before within is))

-- nothing falls
pub falls_nothing : (kind : ℕ → Type 0) (old : List Bool) (before : List ℕ) → ((at : ℕ) → kind at → ⊥)
    → Falls kind old old before before
falls_nothing kind old before none = record {
  counted = refl;
  fewer = λ u h. h;
  fresh = λ u h. inl h;
  met = λ u k. absurd (none u k);
  queued = λ u has. has;
  marked = λ u has. inl has;
  steps = refl;
}

-- what fell stays so
stays : (P : ℕ → Type 0) (a b : List Bool) (l m : List ℕ) (at : ℕ) → Falls P a b l m → admits_by a at ≡ false
    → admits_by b at ≡ false
stays P a b l m at falls is = by_value (admits_by b at) refl
  where
    by_value : (v : Bool) → admits_by b at ≡ v → v ≡ false
    by_value false e = refl
    by_value true e = let bad : false ≡ true = sym is ∙ falls.fewer at e in absurd (cc)

-- some types fall, and then others
pub falls_then : (P Q R : ℕ → Type 0) (a b c : List Bool) (l m n : List ℕ) → ((at : ℕ) → P at ⊎ Q at → R at)
    → ((at : ℕ) → R at → P at ⊎ Q at) → Falls P a b l m → Falls Q b c m n → Falls R a c l n
falls_then P Q R a b c l m n join split first then = record {
  counted = then.counted ∙ first.counted;
  fewer = λ u h. first.fewer u (then.fewer u h);
  fresh = λ u h. elim (first.fresh u h) [
    | inl early ↦ elim (then.fresh u early) [ inl late ↦ inl late | inr (q, has) ↦ inr (join u (inr q), has) ]
    | inr (p, has) ↦ inr (join u (inl p), then.queued u has)
  ];
  met = λ u r. elim (split u r) [
    | inl p ↦ stays Q b c m n u then (first.met u p)
    | inr q ↦ then.met u q
  ];
  queued = λ u has. then.queued u (first.queued u has);
  marked = λ u has. elim (then.marked u has) [
    | inl early ↦ elim (first.marked u early) [
      | inl old ↦ inl old
      | inr (known, is) ↦ inr (omega (arith, known, then.counted), stays Q b c m n u then is)
    ]
    | inr is ↦ inr is
  ];
  steps = then.steps ∙ first.steps;
}

-- one more type of a list
pub falls_more : (a b c : List Bool) (l m n : List ℕ) (list : List ℕ) (at : ℕ) → Falls (Contains list) a b l m
    → Falls (λ met. met ≡ at) b c m n → Falls (Contains (list ++ at ∷ [])) a c l n
falls_more a b c l m n list at first then =
    falls_then (Contains list) (λ met. met ≡ at) (Contains (list ++ at ∷ [])) a b c l m n
    (λ u either. elim either [
      | inl has ↦ Contains-append_left list (at ∷ []) u has
      | inr same ↦ subst (Contains (list ++ at ∷ [])) (sym same) (Contains-push list at)
    ])
    (λ u has. elim (Contains-push_cases list at u has) [ inl early ↦ inl early | inr same ↦ inr (sym same) ])
    first then

-- one more type is looked at, and is barred
pub falls_barred : (barred : List Bool) (a b c : List Bool) (l m n : List ℕ) (count : ℕ)
    → Falls (λ at. (at < count) × (is_barred barred at ≡ true)) a b l m → is_barred barred count ≡ true
    → Falls (λ met. met ≡ count) b c m n
    → Falls (λ at. (at < count + 1) × (is_barred barred at ≡ true)) a c l n
falls_barred barred a b c l m n count first is then =
    falls_then (λ at. (at < count) × (is_barred barred at ≡ true)) (λ met. met ≡ count)
    (λ at. (at < count + 1) × (is_barred barred at ≡ true)) a b c l m n
    (λ u either. elim either [
      | inl known ↦ (omega (arith, known.0), known.1)
      | inr same ↦ (omega (arith, same), ap (is_barred barred) same ∙ is)
    ])
    (λ u known. elim (cases_eq u count) [
      | inl same ↦ inr same
      | inr other ↦ inl (omega (arith, known.0, other), known.1)
    ])
    first then

-- .. and isn't
pub falls_unbarred : (barred : List Bool) (a b : List Bool) (l m : List ℕ) (count : ℕ)
    → Falls (λ at. (at < count) × (is_barred barred at ≡ true)) a b l m → is_barred barred count ≡ false
    → Falls (λ at. (at < count + 1) × (is_barred barred at ≡ true)) a b l m
falls_unbarred barred a b l m count first is =
    falls_then (λ at. (at < count) × (is_barred barred at ≡ true)) (λ met. ⊥)
    (λ at. (at < count + 1) × (is_barred barred at ≡ true)) a b b l m m
    (λ u either. elim either [ inl known ↦ (omega (arith, known.0), known.1) | inr none ↦ absurd none ])
    (λ u known. elim (cases_eq u count) [
      | inl same ↦
          let bad : false ≡ true = sym is ∙ ap (is_barred barred) (sym same) ∙ known.1 in
          inr (let no : ⊥ = cc in no)
      | inr other ↦ inl (omega (arith, known.0, other), known.1)
    ])
    first (falls_nothing (λ met. ⊥) b m (λ at none. none))

-- ---- the search

none_held : (part : ℕ) → Contains [] part → ⊥
none_held part has = omega (arith, has.1)

admits_known : (choice : List Bool) (at : ℕ) → admits_by choice at ≡ true → at < length choice
admits_known choice at h = elim (cases_lt at (length choice)) [
  | inl known ↦ known
  | inr past ↦ let bad : false ≡ true = sym (get_or_past choice at false past) ∙ h in absurd (let no : ⊥ = cc in no)
]

-- a type that some type holds is one
held_known : (holders : List (List ℕ)) (at part : ℕ) → Contains (holders_of holders part) at → part < length holders
held_known holders at part held = elim (cases_lt part (length holders)) [
  | inl known ↦ known
  | inr past ↦ absurd (none_held at (subst (λ list. Contains list at) (get_or_past holders part [] past) held))
]

-- the first choice, by which all types admit equality but those that are barred
pub falls_first : (barred : List Bool) (holders : List (List ℕ)) (all choice : List Bool) (before work : List ℕ)
    → all ≡ replicate (length holders) true → before ≡ []
    → Falls (λ at. is_barred barred at ≡ true) all choice before work
    → IsFalling barred holders choice work
falls_first barred holders all choice before work is empty falls = record {
  counted = counted;
  able = λ at h. by_bar at (is_barred barred at) refl h;
  parts = λ at part held h. elim (falls.fresh part (at_first part (held_known holders at part held))) [
    | inl late ↦ inl late
    | inr (_, has) ↦ inr has
  ];
  greatest = λ other good at h.
      elim (falls.fresh at (at_first at (omega (arith, admits_known other at h, good.counted)))) [
        | inl late ↦ late
        | inr (barred, _) ↦
            let bad : false ≡ true = sym (good.able at h) ∙ barred in absurd (let no : ⊥ = cc in no)
      ];
  fallen = λ at has. elim (falls.marked at has) [
    | inl early ↦ absurd (none_held at (subst (λ list. Contains list at) empty early))
    | inr known ↦ known
  ];
}
  where
    counted : length choice ≡ length holders
    counted = falls.counted ∙ ap length is ∙ length-replicate (length holders) true

    at_first : (at : ℕ) → at < length holders → admits_by all at ≡ true
    at_first at known = ap (λ list. admits_by list at) is ∙ get_or-replicate (length holders) at true false known

    by_bar : (at : ℕ) (v : Bool) → is_barred barred at ≡ v → admits_by choice at ≡ true → v ≡ false
    by_bar at false e h = refl
    by_bar at true e h = let bad : false ≡ true = sym (falls.met at e) ∙ h in absurd (cc)

-- the holders of one type more fall
pub falls_on : (barred : List Bool) (holders : List (List ℕ)) (old new : List Bool) (rest after : List ℕ) (part : ℕ)
    → IsFalling barred holders old (rest ++ part ∷ [])
    → Falls (Contains (holders_of holders part)) old new rest after → IsFalling barred holders new after
falls_on barred holders old new rest after part is falls = record {
  counted = falls.counted ∙ is.counted;
  able = λ at h. is.able at (falls.fewer at h);
  parts = λ at other held h. elim (is.parts at other held (falls.fewer at h)) [
    | inl early ↦ elim (falls.fresh other early) [ inl late ↦ inl late | inr (_, has) ↦ inr has ]
    | inr queued ↦ elim (Contains-push_cases rest part other queued) [
      | inl early ↦ inr (falls.queued other early)
      | inr same ↦
          let met = falls.met at (subst (λ k. Contains (holders_of holders k) at) (sym same) held) in
          let bad : false ≡ true = sym met ∙ h in absurd (let no : ⊥ = cc in no)
    ]
  ];
  greatest = λ choice good at h. elim (falls.fresh at (is.greatest choice good at h)) [
    | inl late ↦ late
    | inr (held, _) ↦
        let wide = is.greatest choice good part (good.parts at part held h) in
        let fell = (is.fallen part (Contains-push rest part)).1 in
        let bad : false ≡ true = sym fell ∙ wide in absurd (let no : ⊥ = cc in no)
  ];
  fallen = λ at has. elim (falls.marked at has) [
    | inl early ↦ (
      omega (arith, falls.counted, (is.fallen at (Contains-append_left rest (part ∷ []) at early)).0),
      stays (Contains (holders_of holders part)) old new rest after at falls
          (is.fallen at (Contains-append_left rest (part ∷ []) at early)).1,
    )
    | inr known ↦ known
  ];
}

-- nothing is left to look at
pub falls_end : (barred : List Bool) (holders : List (List ℕ)) (choice : List Bool)
    → IsFalling barred holders choice [] → IsGreatest barred holders choice
falls_end barred holders choice is = record {
  good = record {
    counted = is.counted;
    able = is.able;
    parts = λ at part held h. elim (is.parts at part held h) [
      | inl early ↦ early
      | inr has ↦ absurd (none_held part has)
    ];
  };
  greatest = is.greatest;
}
