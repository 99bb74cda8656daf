-- Owners pass down: to look further up than groups ended changes nothing, since each group ends before those above it.
use Rattle.std.proofs.Common.{◌≡◌, ◌∙◌, ℕ, zero, suc, ◌+◌, ◌<◌, ◌≤◌, List, [], ◌∷◌, ◌++◌, length, Bool, true, false, Option, Some, None, refl, ap, ap₂, sym, subst, arith, get_or, if◌then◌else◌}
use Rattle.std.specs.Prelude.{slice_get, nat_eq, Contains}
use Rattle.std.specs.List.{list_any, flat_map}
use Rattle.std.proofs.lemmas.Bool.Decides.{nat_tests}
use Rattle.std.proofs.lemmas.Map.Views.{Contains-from_any}
use Rattle.std.proofs.lemmas.Option.{slice_get_within}
use Rattle.cm_description.specs.WellFormed.{IsWellFormed, StandsAt, AllDiffer}
use Rattle.cm_description.specs.declared.loaded.Group.{Group}
use Rattle.cm_description.specs.declared.loaded.Project.{Project}
use Rattle.project_checks.proofs.Places.{place_of}
use Rattle.project_checks.specs.Owners.{AreOrdered, OwnersAreThoseAbove, OwnersPassDown, holders_of, numbers_from, owners_of, owners_within, owns_itself}

pub same_number : (a b : ℕ) → nat_eq a b ≡ true → a ≡ b
same_number a b h = grind (arith, nat_tests)

-- lists of numbers that are made alike of the numbers of what passes
made_alike : {A : Type 0} (passes : A → Bool) (f g : ℕ → List ℕ) (xs : List A) (number : ℕ)
    → ((k : ℕ) (x : A) → StandsAt xs k x → passes x ≡ true → f (number + k) ≡ g (number + k))
    → flat_map f (numbers_from passes number xs) ≡ flat_map g (numbers_from passes number xs)
made_alike passes f g [] number alike = refl
made_alike {A} passes f g (x ∷ xs) number alike =
    by (passes x) refl
    (made_alike passes f g xs (number + 1) (λ k y at pass.
    subst (λ (n : ℕ). f n ≡ g n) (omega arith) (alike (suc k) y at pass)))
  where
    by : (b : Bool) → passes x ≡ b
        → flat_map f (numbers_from passes (number + 1) xs) ≡ flat_map g (numbers_from passes (number + 1) xs)
        → flat_map f (if b then number ∷ numbers_from passes (number + 1) xs else numbers_from passes (number + 1) xs)
        ≡ flat_map g (if b then number ∷ numbers_from passes (number + 1) xs else numbers_from passes (number + 1) xs)
    by true pass rest =
        let first : f number ≡ g number =
        subst (λ (n : ℕ). f n ≡ g n) (omega arith) (alike zero x refl pass) in
        ap₂ (λ (a b : List ℕ). a ++ b) first rest
    by false pass rest = rest

-- .. where the first item has number 0
made_here : {A : Type 0} (passes : A → Bool) (f g : ℕ → List ℕ) (xs : List A)
    → ((k : ℕ) (x : A) → StandsAt xs k x → passes x ≡ true → f k ≡ g k)
    → flat_map f (numbers_from passes 0 xs) ≡ flat_map g (numbers_from passes 0 xs)
made_here passes f g xs alike = made_alike passes f g xs 0 (λ k x at pass.
    subst (λ (n : ℕ). f n ≡ g n) (omega arith) (alike k x at pass))

module _ (groups : List Group) (finished : List ℕ) (ordered : AreOrdered groups finished) where
  -- a group that has a member ended after it
  later : (i number holder : ℕ) (group : Group) → StandsAt finished i number → StandsAt groups holder group
      → list_any (nat_eq number) group.members ≡ true → (k : ℕ) × (i < k) × StandsAt finished k holder
  later i number holder group at held has =
      let there = place_of finished holder (ordered.all holder (slice_get_within groups holder group held)) in
      let inside = Contains-from_any same_number number group.members has in
      let first = ordered.members_first there.0 holder number group there.1 held inside in
      let same : first.0 ≡ i = ordered.once first.0 i number first.2 at in
      (there.0, omega (arith, first.1, same), there.1)

  -- what lies above a group that ended so late is seen by looking so far up
  enough : (levels i number : ℕ) → StandsAt finished i number → length finished ≤ i + levels → (up : ℕ) → levels ≤ up
      → owners_within groups up number ≡ owners_within groups levels number
  enough zero i number at many up le =
      let inside = slice_get_within finished i number at in absurd (omega (arith, inside, many))
  enough (suc levels) i number at many zero le = absurd (omega (arith, le))
  enough (suc levels) i number at many (suc up) le =
      ap (λ (above : List ℕ). if owns_itself groups number then number ∷ [] else above)
      (made_here (λ (group : Group). list_any (nat_eq number) group.members) (owners_within groups up)
      (owners_within groups levels) groups (λ holder group held has.
      let next = later i number holder group at held has in
      enough levels next.0 holder next.2 (omega (arith, many, next.1)) up (omega (arith, le))))

  -- the first to look from is any group that ended
  from_any : (number : ℕ) → number < length groups → (up : ℕ) → length finished ≤ up
      → owners_within groups up number ≡ owners_within groups (length finished) number
  from_any number known up le =
      let there = place_of finished number (ordered.all number known) in
      enough (length finished) there.0 number there.1 (omega arith) up le

  -- one level down
  down_by : (count number : ℕ) → number < length groups → length finished ≡ count
      → owners_within groups count number
      ≡ (if owns_itself groups number then number ∷ []
      else flat_map (owners_within groups count) (holders_of groups number))
  down_by zero number known is =
      let there = place_of finished number (ordered.all number known) in
      let inside = slice_get_within finished there.0 number there.1 in absurd (omega (arith, inside, is))
  down_by (suc count) number known is =
      let there = place_of finished number (ordered.all number known) in
      ap (λ (above : List ℕ). if owns_itself groups number then number ∷ [] else above)
      (made_here (λ (group : Group). list_any (nat_eq number) group.members) (owners_within groups count)
      (owners_within groups (suc count)) groups (λ holder group held has.
      let next = later there.0 number holder group there.1 held has in
      sym (enough count next.0 holder next.2 (omega (arith, is, next.1)) (suc count) (omega arith))))

  pub pass_down : OwnersPassDown groups finished
  unfolding owners_of
  pass_down = record {
    down = λ number known. down_by (length finished) number known refl;
    further = λ up number known le. from_any number known up le;
  }

pub owners_above : OwnersAreThoseAbove
owners_above p whole = pass_down p.groups p.finished (record {
  all = whole.finished_all;
  once = whole.finished_once;
  members_first = λ i number member group at stands has. whole.members_first i number member group at stands has;
})
