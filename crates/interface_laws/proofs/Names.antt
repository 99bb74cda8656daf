-- Names that are numbered by first occurrence keep their numbers.
use Rattle.std.proofs.Common.{◌≡◌, ℕ, zero, suc, ◌+◌, refl, sym, ap, ap₂, ◌∙◌, subst, arith, Bool, true, false, ◌||◌, cond, List, [], ◌∷◌, map, length}
use Rattle.std.specs.List.{range_with_len}
use Rattle.semantic_objects.specs.declared.name.TyName.{TyName}
use Rattle.semantic_objects.specs.Symbols.{same_name}
use Rattle.unification.proofs.Walking.{either_way}
use Rattle.realisation.specs.Names.{is_listed, place_in}
use Rattle.realisation.specs.Canonical.{met, with_number, numbered_in, numbered}
use Rattle.realisation.proofs.Listing.{Named, name_is}
use Rattle.interface_format.specs.Rules.{AreNumbered}
use Rattle.canonical_laws.proofs.Names.{map_agrees, listed_met, met_listed}

cons_parts : (x y : ℕ) (xs ys : List ℕ) → (x ∷ xs) ≡ (y ∷ ys) → (x ≡ y) × (xs ≡ ys)
cons_parts x y xs ys e = (cc, cc)

listed_rest : (n x : TyName) (xs : List TyName) → same_name n x ≡ false → is_listed n (x ∷ xs) ≡ true
    → is_listed n xs ≡ true
listed_rest n x xs e h = sym (ap (λ z. z || is_listed n xs) e) ∙ h

number_is : (first : ℕ) (ys : List TyName) → AreNumbered first ys → (n : TyName) → is_listed n ys ≡ true
    → first + place_in n ys ≡ n.number
number_is first [] h n l = absurd (cc)
number_is first (y ∷ ys) h n l =
    let parts = cons_parts y.number first (map (λ (name : TyName). name.number) ys)
    (range_with_len (first + 1) (length ys)) h in
    let head = parts.0 in
    either_way (same_name n y)
    (λ e. (let at : place_in n (y ∷ ys) ≡ 0 = ap (λ b. cond b 0 (suc (place_in n ys))) e in
    let same : y.number ≡ n.number = ap (λ (m : TyName). m.number) (sym (name_is n y e)) in
    omega (arith, at, same, head)))
    (λ e. (let at : place_in n (y ∷ ys) ≡ suc (place_in n ys) = ap (λ b. cond b 0 (suc (place_in n ys))) e in
    let later = number_is (first + 1) ys parts.1 n (listed_rest n y ys e l) in
    omega (arith, at, later)))

-- a name that is asked for has its number, and the others stay
pub number_stays : (p : TyName → Bool) (names : List TyName) (first : ℕ) (others : TyName → TyName)
    → AreNumbered first (met p names) → (n : TyName) → is_listed n names ≡ true → (p n ≡ false → others n ≡ n)
    → numbered p names first others n ≡ n
number_stays p names first others h n l k = either_way (p n)
    (λ e. ap (λ b. cond b (numbered_in (met p names) first n) (others n)) e
    ∙ ap (λ i. with_number i n) (number_is first (met p names) h n (listed_met p n names l e)))
    (λ e. ap (λ b. cond b (numbered_in (met p names) first n) (others n)) e ∙ k e)

map_same : (xs : List TyName) → map (λ n. n) xs ≡ xs
map_same [] = refl
map_same (x ∷ xs) = ap (λ ys. x ∷ ys) (map_same xs)

-- names that stay are the same list
pub all_stay : (h : TyName → TyName) (p : TyName → Bool) (names : List TyName) → Named (λ n. h n ≡ n) names
    → map h (met p names) ≡ met p names
all_stay h p names stays =
    map_agrees h (λ n. n) (met p names) (λ n l. stays n (met_listed p n names l)) ∙ map_same (met p names)
