-- What is known of owners says whether there are several, and which is the one.
use Rattle.std.proofs.Common.{◌≡◌, ◌≢◌, ◌∙◌, ◌⊎◌, ℕ, zero, suc, ◌+◌, ◌<◌, List, [], ◌∷◌, length, Bool, true, false, inl, inr, refl, ap, sym, subst, arith, if◌then◌else◌}
use Rattle.std.specs.Prelude.{◌==◌, ◌||◌, not, nat_eq, Contains}
use Rattle.std.specs.List.{list_any}
use Rattle.std.proofs.lemmas.Bool.Decides.{nat_tests}
use Rattle.project_checks.specs.Owners.{are_several, first_owner}
use Rattle.project_checks.specs.Owning.{Sums, is_several, joined}
use Rattle.project_checks.specs.Assembly.{owner_number}
use Rattle.project_checks.specs.declared.owners.Owned.{Owned}
use Rattle.project_checks.specs.declared.owners.Owned.TheVariants as owned

-- ---- lists

pub contains_first : (x : ℕ) (xs : List ℕ) → Contains (x ∷ xs) x
contains_first x xs = (zero, omega arith, refl)

pub contains_rest : (x o : ℕ) (xs : List ℕ) → Contains xs o → Contains (x ∷ xs) o
contains_rest x o xs has = let inside = has.1 in (suc has.0, omega (arith, inside), has.2)

pub contains_cases : (x o : ℕ) (xs : List ℕ) → Contains (x ∷ xs) o → (x ≡ o) ⊎ Contains xs o
contains_cases x o xs (zero, inside, is) = inl is
contains_cases x o xs (suc k, inside, is) = inr (k, omega (arith, inside), is)

-- none differs from a number
none_differs : (x : ℕ) (xs : List ℕ) → ((o : ℕ) → Contains xs o → o ≡ x)
    → list_any (λ (other : ℕ). not (x == other)) xs ≡ false
none_differs x [] same = refl
none_differs x (y ∷ ys) same =
    let is : y ≡ x = same y (contains_first y ys) in
    let equal : (x == y) ≡ true = grind (arith, nat_tests) in
    ap (λ (b : Bool). not b || list_any (λ (other : ℕ). not (x == other)) ys) equal
    ∙ none_differs x ys (λ o has. same o (contains_rest y o ys has))

first_by : (x y : ℕ) (b : Bool) → (x == y) ≡ b → x ≢ y → b ≡ false
first_by x y true e differ = absurd (differ (grind (arith, nat_tests)))
first_by x y false e differ = refl

first_differs : (x y : ℕ) (ys : List ℕ) → x ≢ y → list_any (λ (other : ℕ). not (x == other)) (y ∷ ys) ≡ true
first_differs x y ys differ =
    ap (λ (b : Bool). not b || list_any (λ (other : ℕ). not (x == other)) ys) (first_by x y (x == y) refl differ)

-- some does
or_true : (a : Bool) → (a || true) ≡ true
or_true true = refl
or_true false = refl

some_differs : (x : ℕ) (xs : List ℕ) (o : ℕ) → Contains xs o → x ≢ o
    → list_any (λ (other : ℕ). not (x == other)) xs ≡ true
some_differs x [] o has differ = let inside = has.1 in absurd (omega (arith, inside))
some_differs x (y ∷ ys) o has differ = elim (contains_cases y o ys has) [
  | inl is ↦ first_differs x y ys (λ same. differ (same ∙ is))
  | inr rest ↦ ap (λ (b : Bool). not (x == y) || b) (some_differs x ys o rest differ) ∙ or_true (not (x == y))
]

-- ---- sums

-- a list that has nothing
pub empty_of : (xs : List ℕ) → ((o : ℕ) → Contains xs o → ⊥) → xs ≡ []
empty_of [] none = refl
empty_of (x ∷ xs) none = absurd (none x (contains_first x xs))

several_by : (x : ℕ) (xs : List ℕ) (one : ℕ) → Contains xs one → (b : Bool) → (x == one) ≡ b → (other : ℕ)
    → Contains (x ∷ xs) other → one ≢ other → list_any (λ (other : ℕ). not (x == other)) xs ≡ true
several_by x xs one rest false e other has differ =
    some_differs x xs one rest (λ same. let equal : (x == one) ≡ true = grind (arith, nat_tests) in absurd (cc))
several_by x xs one rest true e other has differ =
    let is : x ≡ one = grind (arith, nat_tests) in
    elim (contains_cases x other xs has) [
      | inl also ↦ absurd (differ (sym is ∙ also))
      | inr more ↦ some_differs x xs other more (λ same. differ (sym is ∙ same))
    ]

pub several_is : (known : Owned) (xs : List ℕ) → Sums known (Contains xs) → is_several known ≡ are_several xs
several_is owned.Nobody xs none = ap are_several (sym (empty_of xs none))
several_is (owned.One one) [] sum = let inside = sum.0.1 in absurd (omega (arith, inside))
several_is (owned.One one) (x ∷ xs) sum =
    let first : x ≡ one = sum.1 x (contains_first x xs) in
    sym (none_differs x xs (λ o has. sum.1 o (contains_rest x o xs has) ∙ sym first))
several_is owned.Several [] sum = let inside = sum.2.1 in absurd (omega (arith, inside))
several_is owned.Several (x ∷ xs) sum = sym (elim (contains_cases x sum.0 xs sum.2) [
  | inl is ↦ elim (contains_cases x sum.1 xs sum.3) [
    | inl also ↦ absurd (sum.4 (sym is ∙ also))
    | inr rest ↦ some_differs x xs sum.1 rest (λ same. sum.4 (sym is ∙ same))
  ]
  | inr rest ↦ several_by x xs sum.0 rest (x == sum.0) refl sum.1 sum.3 sum.4
])

-- the one owner is the first of the list
pub number_is : (known : Owned) (xs : List ℕ) → Sums known (Contains xs) → is_several known ≡ false
    → owner_number known ≡ first_owner xs
number_is owned.Nobody xs none one = ap first_owner (sym (empty_of xs none))
number_is (owned.One owner) [] sum one = let inside = sum.0.1 in absurd (omega (arith, inside))
number_is (owned.One owner) (x ∷ xs) sum one = sym (sum.1 x (contains_first x xs))
number_is owned.Several xs sum one = absurd (cc)

both_sum : (m n : ℕ) (P Q : ℕ → Type 0) → Sums (owned.One m) P → Sums (owned.One n) Q → (b : Bool) → (m == n) ≡ b
    → Sums (if b then owned.One m else owned.Several) (λ (owner : ℕ). P owner ⊎ Q owner)
both_sum m n P Q p q true e =
    let same : m ≡ n = grind (arith, nat_tests) in
    (inl p.0, λ owner has. elim has [ inl a ↦ p.1 owner a | inr b ↦ q.1 owner b ∙ sym same ])
both_sum m n P Q p q false e =
    (m, n, inl p.0, inr q.0, λ same. let equal : (m == n) ≡ true = grind (arith, nat_tests) in absurd (cc))

-- what two know together
pub joined_sums : (one other : Owned) (P Q : ℕ → Type 0) → Sums one P → Sums other Q
    → Sums (joined one other) (λ (owner : ℕ). P owner ⊎ Q owner)
joined_sums owned.Nobody owned.Nobody P Q p q = λ owner has. elim has [ inl a ↦ p owner a | inr b ↦ q owner b ]
joined_sums owned.Nobody (owned.One n) P Q p q =
    (inr q.0, λ owner has. elim has [ inl a ↦ absurd (p owner a) | inr b ↦ q.1 owner b ])
joined_sums owned.Nobody owned.Several P Q p q = (q.0, q.1, inr q.2, inr q.3, q.4)
joined_sums (owned.One m) owned.Nobody P Q p q =
    (inl p.0, λ owner has. elim has [ inl a ↦ p.1 owner a | inr b ↦ absurd (q owner b) ])
joined_sums (owned.One m) (owned.One n) P Q p q = both_sum m n P Q p q (m == n) refl
joined_sums (owned.One m) owned.Several P Q p q = (q.0, q.1, inr q.2, inr q.3, q.4)
joined_sums owned.Several other P Q p q = (p.0, p.1, inl p.2, inl p.3, p.4)
