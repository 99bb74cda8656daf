-- Names that have the numbers from a first one on.
use Rattle.std.proofs.Common.{◌≡◌, ◌≢◌, ℕ, zero, suc, ◌+◌, ◌<◌, ◌≤◌, refl, ap, ap₂, sym, subst, ◌∙◌, arith, List, [], ◌∷◌, length, map, drop, get_or, true, false, IsTrue, ◌↔◌}
use Rattle.std.specs.List.{range_with_len}
use Rattle.semantic_objects.specs.declared.name.TyName.{TyName}
use Rattle.interface_format.specs.Rules.{AreNumbered}

-- the names of a list are numbered exactly where those of another one are
pub record NumberedAlike (first : ℕ) (xs : List TyName) (next : ℕ) (ys : List TyName) : Type 0 where
  pub to : AreNumbered first xs → AreNumbered next ys
  pub back : AreNumbered next ys → AreNumbered first xs

abbrev number_of : TyName → ℕ
number_of name = name.number

cons_parts : (x y : ℕ) (xs ys : List ℕ) → (x ∷ xs) ≡ (y ∷ ys) → (x ≡ y) × (xs ≡ ys)
cons_parts x y xs ys e = (cc, cc)

pub numbered_head : (first : ℕ) (x : TyName) (xs : List TyName) → AreNumbered first (x ∷ xs) → x.number ≡ first
numbered_head first x xs h =
    (cons_parts x.number first (map number_of xs) (range_with_len (first + 1) (length xs)) h).0

-- one name more has the next number
pub numbered_next : (first next : ℕ) (all rest : List TyName) (x : TyName) → x.number ≡ next
    → NumberedAlike first all next (x ∷ rest) → NumberedAlike first all (next + 1) rest
numbered_next first next all rest x e h = record {
  to = λ k. (cons_parts x.number next (map number_of rest) (range_with_len (next + 1) (length rest)) (h.to k)).1;
  back = λ k. h.back (ap₂ (λ y ys. y ∷ ys) e k);
}

pub numbered_first : (first : ℕ) (xs : List TyName) → NumberedAlike first xs first xs
numbered_first first xs = record { to = λ k. k; back = λ k. k }

at_rest : (xs : List TyName) (i : ℕ) (x d : TyName) → x ≡ get_or xs i d → i < length xs
    → drop i xs ≡ x ∷ drop (i + 1) xs
at_rest [] i x d e lt = absurd (omega (arith, lt))
at_rest (y ∷ ys) zero x d e lt = ap (λ (z : TyName). z ∷ ys) (sym e)
at_rest (y ∷ ys) (suc i) x d e lt =
    let more : suc (i + 1) ≡ suc i + 1 = omega arith in
    at_rest ys i x d e (omega (arith, lt)) ∙ ap (λ n. x ∷ drop n (y ∷ ys)) more

-- the name at a place has the next number
pub numbered_on : (first next : ℕ) (xs : List TyName) (i : ℕ) (x d : TyName) → x ≡ get_or xs i d → i < length xs
    → x.number ≡ next → NumberedAlike first xs next (drop i xs) → NumberedAlike first xs (next + 1) (drop (i + 1) xs)
numbered_on first next xs i x d e lt n h =
    numbered_next first next xs (drop (i + 1) xs) x n (subst (NumberedAlike first xs next) (at_rest xs i x d e lt) h)

-- .. or another one
pub numbered_not : (first next : ℕ) (xs : List TyName) (i : ℕ) (x d : TyName) → x ≡ get_or xs i d → i < length xs
    → x.number ≢ next → NumberedAlike first xs next (drop i xs) → IsTrue false ↔ AreNumbered first xs
numbered_not first next xs i x d e lt n h = (
  λ t. absurd (cc),
  λ k. absurd (n (numbered_head next x (drop (i + 1) xs)
      ((subst (NumberedAlike first xs next) (at_rest xs i x d e lt) h).to k))),
)

all_dropped : (xs : List TyName) (i : ℕ) → length xs ≤ i → drop i xs ≡ []
all_dropped [] zero h = refl
all_dropped [] (suc i) h = refl
all_dropped (x ∷ xs) zero h = absurd (omega (arith, h))
all_dropped (x ∷ xs) (suc i) h = all_dropped xs i (omega (arith, h))

pub numbered_end : (first next : ℕ) (xs : List TyName) (i : ℕ) → length xs ≤ i
    → NumberedAlike first xs next (drop i xs) → IsTrue true ↔ AreNumbered first xs
numbered_end first next xs i le h =
    (λ t. (subst (NumberedAlike first xs next) (all_dropped xs i le) h).back refl, λ k. refl)
