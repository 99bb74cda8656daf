-- The numbers of the items that pass, and of the members of a group.
use Rattle.std.proofs.Common.{◌≡◌, ◌∙◌, ◌⊎◌, ℕ, zero, suc, ◌+◌, ◌<◌, List, [], ◌∷◌, length, map, Bool, true, false, Some, inl, inr, refl, ap, sym, subst, arith, if◌then◌else◌}
use Rattle.std.specs.Prelude.{◌==◌, filter, Contains}
use Rattle.std.proofs.lemmas.Bool.Decides.{nat_tests}
use Rattle.cm_description.specs.WellFormed.{AllDiffer, StandsAt}
use Rattle.project_checks.specs.Owners.{numbers_from}
use Rattle.project_checks.specs.Checks.{members_among}
use Rattle.project_checks.specs.declared.progress.Membership.{Membership}
use Rattle.project_checks.proofs.Places.{stands_contained}
use Rattle.project_checks.proofs.Summing.{contains_cases, contains_first, contains_rest}

-- a number is that of an item that passes
abbrev pub Numbers : {A : Type 0} → (A → Bool) → List A → ℕ → ℕ → Type 0
Numbers {A} passes xs start number =
    (k : ℕ) × (x : A) × (number ≡ start + k) × StandsAt xs k x × (passes x ≡ true)

later : {A : Type 0} (passes : A → Bool) (x : A) (xs : List A) (start number : ℕ)
    → Numbers passes xs (start + 1) number → Numbers passes (x ∷ xs) start number
later passes x xs start number (k, y, is, at, pass) = (suc k, y, omega (arith, is), at, pass)

number_by : {A : Type 0} (passes : A → Bool) (x : A) (xs : List A) (start number : ℕ) (b : Bool) → passes x ≡ b
    → (Contains (numbers_from passes (start + 1) xs) number → Numbers passes xs (start + 1) number)
    → Contains (if b then start ∷ numbers_from passes (start + 1) xs else numbers_from passes (start + 1) xs) number
    → Numbers passes (x ∷ xs) start number
number_by passes x xs start number true e rest has =
    elim (contains_cases start number (numbers_from passes (start + 1) xs) has) [
      | inl is ↦ (zero, x, omega (arith, is), refl, e)
      | inr more ↦ later passes x xs start number (rest more)
    ]
number_by passes x xs start number false e rest has = later passes x xs start number (rest has)

pub number_passes : {A : Type 0} (passes : A → Bool) (xs : List A) (start number : ℕ)
    → Contains (numbers_from passes start xs) number → Numbers passes xs start number
number_passes passes [] start number has = let inside = has.1 in absurd (omega (arith, inside))
number_passes passes (x ∷ xs) start number has =
    number_by passes x xs start number (passes x) refl (number_passes passes xs (start + 1) number) has

-- .. and each item that passes has its number there
first_listed : (start : ℕ) (rest : List ℕ) (b : Bool) → b ≡ true → Contains (if b then start ∷ rest else rest) start
first_listed start rest true e = contains_first start rest
first_listed start rest false e = absurd (cc)

rest_listed : (start number : ℕ) (rest : List ℕ) (b : Bool) → Contains rest number
    → Contains (if b then start ∷ rest else rest) number
rest_listed start number rest true has = contains_rest start number rest has
rest_listed start number rest false has = has

pub passes_number : {A : Type 0} (passes : A → Bool) (xs : List A) (start k : ℕ) (x : A) → StandsAt xs k x
    → passes x ≡ true → Contains (numbers_from passes start xs) (start + k)
passes_number passes [] start k x at pass = absurd (cc)
passes_number passes (y ∷ xs) start zero x at pass =
    let same : y ≡ x = cc in
    subst (Contains (numbers_from passes start (y ∷ xs))) (omega arith)
    (first_listed start (numbers_from passes (start + 1) xs) (passes y) (ap passes same ∙ pass))
passes_number passes (y ∷ xs) start (suc k) x at pass =
    subst (Contains (numbers_from passes start (y ∷ xs))) (omega arith)
    (rest_listed start (start + 1 + k) (numbers_from passes (start + 1) xs) (passes y)
    (passes_number passes xs (start + 1) k x at pass))

-- nothing stands there at two places
pub differ_cons : {A : Type 0} (x : A) (xs : List A) → (Contains xs x → ⊥) → AllDiffer xs → AllDiffer (x ∷ xs)
differ_cons x xs new differ zero zero y a b = refl
differ_cons x xs new differ zero (suc j) y a b =
    let same : y ≡ x = cc in absurd (new (subst (Contains xs) same (stands_contained xs j y b)))
differ_cons x xs new differ (suc i) zero y a b =
    let same : y ≡ x = cc in absurd (new (subst (Contains xs) same (stands_contained xs i y a)))
differ_cons x xs new differ (suc i) (suc j) y a b = ap suc (differ i j y a b)

differ_by : {A : Type 0} (passes : A → Bool) (xs : List A) (start : ℕ) (b : Bool)
    → AllDiffer (numbers_from passes (start + 1) xs)
    → AllDiffer (if b then start ∷ numbers_from passes (start + 1) xs else numbers_from passes (start + 1) xs)
differ_by passes xs start true rest =
    differ_cons start (numbers_from passes (start + 1) xs)
    (λ has. let found = number_passes passes xs (start + 1) start has in
    let is = found.2 in absurd (omega (arith, is))) rest
differ_by passes xs start false rest = rest

pub numbers_differ : {A : Type 0} (passes : A → Bool) (xs : List A) (start : ℕ)
    → AllDiffer (numbers_from passes start xs)
numbers_differ passes [] start = λ i j x a b. absurd (cc)
numbers_differ passes (x ∷ xs) start =
    differ_by passes xs start (passes x) (numbers_differ passes xs (start + 1))

-- ---- members

abbrev pub membership : ℕ → ℕ → Membership
membership group member = record { group = group; member = member }

-- one membership more, where it is of the group or of another
member_by : (m : Membership) (ms : List Membership) (group number : ℕ) (b : Bool) → (m.group == group) ≡ b
    → (Contains (members_among ms group) number → Contains ms (membership group number))
    → Contains (map (λ (x : Membership). x.member)
    (if b then m ∷ filter (λ (x : Membership). x.group == group) ms
    else filter (λ (x : Membership). x.group == group) ms)) number
    → Contains (m ∷ ms) (membership group number)
member_by m ms group number true e rest has =
    let same : m.group ≡ group = grind (arith, nat_tests) in
    elim (contains_cases m.member number (members_among ms group) has) [
      | inl is ↦ (zero, omega arith, ap (λ (g : ℕ). membership g m.member) same ∙ ap (membership group) is)
      | inr more ↦ behind m ms (membership group number) (rest more)
    ]
  where
    behind : (m : Membership) (ms : List Membership) (x : Membership) → Contains ms x → Contains (m ∷ ms) x
    behind m ms x has = let inside = has.1 in (suc has.0, omega (arith, inside), has.2)
member_by m ms group number false e rest has =
    let found = rest has in let inside = found.1 in (suc found.0, omega (arith, inside), found.2)

pub member_listed : (ms : List Membership) (group number : ℕ) → Contains (members_among ms group) number
    → Contains ms (membership group number)
member_listed [] group number has = let inside = has.1 in absurd (omega (arith, inside))
member_listed (m ∷ ms) group number has =
    member_by m ms group number (m.group == group) refl (member_listed ms group number) has
