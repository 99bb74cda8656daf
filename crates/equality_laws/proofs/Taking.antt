-- The greatest choice is the one that the definition takes, since there is no other.
use Rattle.std.proofs.Common.{◌≡◌, ℕ, zero, suc, List, [], ◌∷◌, length, map, get_or, refl, sym, ap, ap₂, ◌∙◌, subst, arith, Bool, true, false, not, ◌&&◌}
use Rattle.std.specs.Prelude.{Contains}
use Rattle.std.specs.List.{list_all}
use Rattle.std.proofs.lemmas.List.{length-map}
use Rattle.std.proofs.lemmas.List.Elements.{Contains-get_or}
use Rattle.std.proofs.lemmas.List.Sums.{AllPass-from_list_all, list_all-from_AllPass}
use Rattle.unification.proofs.Putting.{and_left, and_right}
use Rattle.static_semantics.specs.DatatypeInference.{Dat, dat_admits, equality_choice}
use Rattle.static_semantics.specs.RuleConditions.{RespectsIn, RespectsEquality, IsWithinChoice, MaximisesEquality}
use Rattle.static_semantics.proofs.Maximal.{datatypes_maximise}
use Rattle.equality_types.specs.Choices.{admits_by, is_barred, IsGood}
use Rattle.equality_laws.specs.Needs.{need_of, cons_barred, cons_held, barred_of, held_of}
use Rattle.equality_laws.specs.Promises.{AreHoldersOf, GreatestChoicesAreTaken}
use Rattle.equality_laws.proofs.Needing.{dat_says}

not_true : (b : Bool) → not b ≡ true → b ≡ false
not_true true h = absurd (cc)
not_true false h = refl

passes : (p : ℕ → Bool) (xs : List ℕ) (x : ℕ) → list_all p xs ≡ true → Contains xs x → p x ≡ true
passes p xs x h has = subst (λ y. p y ≡ true) has.2 (AllPass-from_list_all p xs h has.0 x has.1)

all_pass : (p : ℕ → Bool) (xs : List ℕ) → ((x : ℕ) → Contains xs x → p x ≡ true) → list_all p xs ≡ true
all_pass p xs h = list_all-from_AllPass p xs (λ k d within. h (get_or xs k d) (Contains-get_or xs k d within))

respects_length : (home : List ℕ) (first : ℕ) (whole other : List Bool) (dats : List Dat)
    → RespectsIn home first whole other dats → length other ≡ length dats
respects_length home first whole [] [] k = refl
respects_length home first whole [] (dat ∷ dats) k = absurd k
respects_length home first whole (a ∷ other) [] k = absurd k
respects_length home first whole (a ∷ other) (dat ∷ dats) k = ap suc (respects_length home first whole other dats k.1)

module _ (home : List ℕ) (first count : ℕ) (whole : List Bool) (counted : length whole ≡ count) where
  -- what a choice that respects equality says at a place
  respects_at : (choice : List Bool) (dats : List Dat) → RespectsIn home first whole choice dats → (at : ℕ)
      → get_or choice at false ≡ true
      → (get_or (barred_of (need_of home first count) dats) at false ≡ false)
      × (list_all (admits_by whole) (get_or (held_of (need_of home first count) dats) at []) ≡ true)
  respects_at [] [] k zero e = absurd (cc)
  respects_at [] [] k (suc at) e = absurd (cc)
  respects_at [] (dat ∷ dats) k at e = absurd k
  respects_at (a ∷ choice) [] k at e = absurd k
  respects_at (a ∷ choice) (dat ∷ dats) k zero e =
      let says : (not (cons_barred (need_of home first count) dat.cons)
      && list_all (admits_by whole) (cons_held (need_of home first count) dat.cons)) ≡ true =
      sym (dat_says home first count whole dat counted) ∙ k.0 e in
      (not_true (cons_barred (need_of home first count) dat.cons) (and_left _ _ says), and_right _ _ says)
  respects_at (a ∷ choice) (dat ∷ dats) k (suc at) e = respects_at choice dats k.1 at e

  -- .. and back
  admits_at : (dats : List Dat) (at : ℕ) → get_or (barred_of (need_of home first count) dats) at false ≡ false
      → list_all (admits_by whole) (get_or (held_of (need_of home first count) dats) at []) ≡ true
      → get_or (map (dat_admits home first whole) dats) at true ≡ true
  admits_at [] zero h k = refl
  admits_at [] (suc at) h k = refl
  admits_at (dat ∷ dats) zero h k =
      dat_says home first count whole dat counted
      ∙ ap (λ b. not b && list_all (admits_by whole) (cons_held (need_of home first count) dat.cons)) h ∙ k
  admits_at (dat ∷ dats) (suc at) h k = admits_at dats at h k

  respects_by : (choice : List Bool) (dats : List Dat) → length choice ≡ length dats
      → ((at : ℕ) → get_or choice at false ≡ true → get_or (map (dat_admits home first whole) dats) at true ≡ true)
      → RespectsIn home first whole choice dats
  respects_by [] [] l h = tt
  respects_by [] (dat ∷ dats) l h = absurd (omega (arith, l))
  respects_by (a ∷ choice) [] l h = absurd (omega (arith, l))
  respects_by (a ∷ choice) (dat ∷ dats) l h =
      (λ e. h zero e, respects_by choice dats (omega (arith, l)) (λ at e. h (suc at) e))

module _ (home : List ℕ) (first : ℕ) (dats : List Dat) (barred : List Bool) (holders : List (List ℕ))
    (bars : barred ≡ barred_of (need_of home first (length dats)) dats)
    (holds : AreHoldersOf (held_of (need_of home first (length dats)) dats) holders) where
  counted : length holders ≡ length dats
  counted = holds.counted ∙ length-map dats (λ (dat : Dat). cons_held (need_of home first (length dats)) dat.cons)

  good_of : (choice : List Bool) → RespectsEquality home first dats choice → IsGood barred holders choice
  good_of choice k =
      let l : length choice ≡ length dats = respects_length home first choice choice dats k in
      record {
        counted = l ∙ sym counted;
        able = λ at e. ap (λ bs. is_barred bs at) bars
            ∙ (respects_at home first (length dats) choice l choice dats k at e).0;
        parts = λ at part has e. passes (admits_by choice)
            (get_or (held_of (need_of home first (length dats)) dats) at []) part
            (respects_at home first (length dats) choice l choice dats k at e).1 (holds.back at part has);
      }

  respects_of : (choice : List Bool) → IsGood barred holders choice → RespectsEquality home first dats choice
  respects_of choice good =
      let l : length choice ≡ length dats = good.counted ∙ counted in
      respects_by home first (length dats) choice l choice dats l (λ at e.
      admits_at home first (length dats) choice l dats at
      (sym (ap (λ bs. is_barred bs at) bars) ∙ good.able at e)
      (all_pass (admits_by choice) (get_or (held_of (need_of home first (length dats)) dats) at []) (λ part has.
      good.parts at part (holds.all at part has) e)))

one_mark : (a b : Bool) → (a ≡ true → b ≡ true) → (b ≡ true → a ≡ true) → a ≡ b
one_mark true b h k = sym (h refl)
one_mark false true h k = absurd (let bad : false ≡ true = k refl in let no : ⊥ = cc in no)
one_mark false false h k = refl

same_choice : (a b : List Bool) → length a ≡ length b → IsWithinChoice a b
    → ((at : ℕ) → get_or b at false ≡ true → get_or a at false ≡ true) → a ≡ b
same_choice [] [] l h k = refl
same_choice [] (y ∷ b) l h k = absurd (omega (arith, l))
same_choice (x ∷ a) [] l h k = absurd (omega (arith, l))
same_choice (x ∷ a) (y ∷ b) l h k = ap₂ (λ m ms. m ∷ ms) (one_mark x y h.0 (k zero))
    (same_choice a b (omega (arith, l)) h.1 (λ at e. k (suc at) e))

pub greatest_taken : GreatestChoicesAreTaken
greatest_taken home first dats barred holders choice bars holds greatest =
    let most : MaximisesEquality home first dats (equality_choice home first dats) =
    datatypes_maximise.all home first dats in
    let l : length choice ≡ length dats =
    greatest.good.counted ∙ counted home first dats barred holders bars holds in
    same_choice choice (equality_choice home first dats)
    (l ∙ sym (respects_length home first (equality_choice home first dats) (equality_choice home first dats) dats
    most.respects))
    (most.greatest choice (respects_of home first dats barred holders bars holds choice greatest.good))
    (greatest.greatest (equality_choice home first dats)
    (good_of home first dats barred holders bars holds (equality_choice home first dats) most.respects))
