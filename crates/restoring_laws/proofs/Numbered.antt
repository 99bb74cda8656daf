-- Names that have numbers of their own.
use Rattle.std.proofs.Common.{◌≡◌, ℕ, ◌+◌, ◌<◌, ◌≤◌, sym, ap, subst, ◌∙◌, arith, Bool, true, false, ◌||◌, ◌&&◌, not, List, [], ◌∷◌, ◌++◌, length, map, filter}
use Rattle.std.specs.List.{range_with_len}
use Rattle.unification.proofs.Walking.{either_way}
use Rattle.semantic_objects.specs.declared.name.TyName.{TyName}
use Rattle.semantic_objects.specs.declared.name.Owner.TheVariants as owner
use Rattle.semantic_objects.specs.Symbols.{same_name, same_owner}
use Rattle.realisation.specs.Names.{is_listed}
use Rattle.realisation.specs.Canonical.{met, is_own, is_bound_name}
use Rattle.realisation.proofs.Listing.{name_is, name_same}
use Rattle.interface_format.specs.Rules.{AreNumbered, Agree, is_not_bound, is_beyond}
use Rattle.canonical_interfaces.specs.Fair.{is_other}
use Rattle.canonical_laws.proofs.Names.{filter_listed, filter_passes, filter_keeps, listed_met}
use Rattle.restoring_laws.specs.Numbers.{NumberedNamesAgree}

-- ---- numbers of a list

cons_parts : (x y : ℕ) (xs ys : List ℕ) → (x ∷ xs) ≡ (y ∷ ys) → (x ≡ y) × (xs ≡ ys)
cons_parts x y xs ys e = (cc, cc)

record Numbers (first : ℕ) (y : TyName) (ys : List TyName) : Type 0 where
  head : y.number ≡ first
  rest : AreNumbered (first + 1) ys

numbers : (first : ℕ) (y : TyName) (ys : List TyName) → AreNumbered first (y ∷ ys) → Numbers first y ys
numbers first y ys h =
    let parts = cons_parts y.number first (map (λ (name : TyName). name.number) ys)
    (range_with_len (first + 1) (length ys)) h in
    record { head = parts.0; rest = parts.1 }

listed_rest : (n x : TyName) (xs : List TyName) → same_name n x ≡ false → is_listed n (x ∷ xs) ≡ true
    → is_listed n xs ≡ true
listed_rest n x xs e h = sym (ap (λ z. z || is_listed n xs) e) ∙ h

-- a name of the list is its first one, or one of the others
first_or_rest : {P : Type 0} (n y : TyName) (ys : List TyName) → is_listed n (y ∷ ys) ≡ true → (n ≡ y → P)
    → (is_listed n ys ≡ true → P) → P
first_or_rest n y ys h f g =
    either_way (same_name n y) (λ e. f (name_is n y e)) (λ e. g (listed_rest n y ys e h))

from_first : (first : ℕ) (ys : List TyName) (n : TyName) → AreNumbered first ys → is_listed n ys ≡ true
    → first ≤ n.number
from_first first [] n h l = absurd (cc)
from_first first (y ∷ ys) n h l =
    let k = numbers first y ys h in
    let head = k.head in
    first_or_rest n y ys l
    (λ e. (let same : n.number ≡ y.number = ap (λ (m : TyName). m.number) e in omega (arith, same, head)))
    (λ r. (let later : first + 1 ≤ n.number = from_first (first + 1) ys n k.rest r in omega (arith, later)))

to_last : (first : ℕ) (ys : List TyName) (n : TyName) → AreNumbered first ys → is_listed n ys ≡ true
    → n.number < first + length ys
to_last first [] n h l = absurd (cc)
to_last first (y ∷ ys) n h l =
    let k = numbers first y ys h in
    let head = k.head in
    first_or_rest n y ys l
    (λ e. (let same : n.number ≡ y.number = ap (λ (m : TyName). m.number) e in omega (arith, same, head)))
    (λ r. (let later : n.number < first + 1 + length ys = to_last (first + 1) ys n k.rest r in omega (arith, later)))

after_first : (first : ℕ) (y : TyName) (ys : List TyName) (m n : TyName) → Numbers first y ys → m ≡ y
    → is_listed n ys ≡ true → m.number ≡ n.number → ⊥
after_first first y ys m n k e l s =
    let head = k.head in
    let same : m.number ≡ y.number = ap (λ (z : TyName). z.number) e in
    let later : first + 1 ≤ n.number = from_first (first + 1) ys n k.rest l in
    omega (arith, head, same, later, s)

-- one number, one name
one_each : (first : ℕ) (ys : List TyName) (m n : TyName) → AreNumbered first ys → is_listed m ys ≡ true
    → is_listed n ys ≡ true → m.number ≡ n.number → m ≡ n
one_each first [] m n h l r s = absurd (cc)
one_each first (y ∷ ys) m n h l r s =
    let k = numbers first y ys h in
    first_or_rest m y ys l
    (λ e. first_or_rest n y ys r (λ f. e ∙ sym f) (λ f. absurd (after_first first y ys m n k e f s)))
    (λ e. first_or_rest n y ys r (λ f. absurd (after_first first y ys n m k f e (sym s)))
    (λ f. one_each (first + 1) ys m n k.rest e f s))

-- ---- names of signatures and functors

signature : (names : List TyName) → AreNumbered 0 (met is_bound_name names) → Agree (filter is_bound_name names)
signature names h = record {
  agree = λ m n l r o s.
      one_each 0 (met is_bound_name names) m n h
      (listed_met is_bound_name m names (filter_listed is_bound_name m names l) (filter_passes is_bound_name m names l))
      (listed_met is_bound_name n names (filter_listed is_bound_name n names r) (filter_passes is_bound_name n names r))
      s;
}

either_listed : {P : Type 0} (n : TyName) (xs ys : List TyName) → is_listed n (xs ++ ys) ≡ true
    → (is_listed n xs ≡ true → P) → (is_listed n ys ≡ true → P) → P
either_listed n [] ys h f g = g h
either_listed n (x ∷ xs) ys h f g =
    first_or_rest n x (xs ++ ys) h (λ e. f (here e))
    (λ r. either_listed n xs ys r (λ k. f (later k)) g)
  where
    here : n ≡ x → is_listed n (x ∷ xs) ≡ true
    here e = ap (λ z. z || is_listed n xs) (subst (λ z. same_name n z ≡ true) e (name_same n))

    later : is_listed n xs ≡ true → is_listed n (x ∷ xs) ≡ true
    later k = either_way (same_name n x) (λ e. ap (λ z. z || is_listed n xs) e)
        (λ e. ap (λ z. z || is_listed n xs) e ∙ k)

-- a bound name of a functor is one of its parameter's, or a further one
first_or_further : {P : Type 0} (param result : List TyName) (n : TyName)
    → is_listed n (filter is_bound_name (param ++ result)) ≡ true
    → (is_listed n (met is_bound_name param) ≡ true → P)
    → (is_listed n (met (is_beyond (met is_bound_name param)) result) ≡ true → P) → P
first_or_further param result n h f g =
    let bound = met is_bound_name param in
    let is = filter_passes is_bound_name n (param ++ result) h in
    either_listed n param result (filter_listed is_bound_name n (param ++ result) h)
    (λ l. f (listed_met is_bound_name n param l is))
    (λ l. either_way (is_listed n bound) f
    (λ e. g (listed_met (is_beyond bound) n result l (ap (λ z. is_bound_name n && not z) e ∙ ap (λ z. z && true) is))))

functor : (param result : List TyName) → AreNumbered 0 (met is_bound_name param)
    → AreNumbered (length (met is_bound_name param)) (met (is_beyond (met is_bound_name param)) result)
    → Agree (filter is_bound_name (param ++ result))
functor param result h k = record {
  agree = λ m n l r o s.
      first_or_further param result m l
      (λ a. first_or_further param result n r (λ b. one_each 0 (met is_bound_name param) m n h a b s)
      (λ b. absurd (apart m n a b s)))
      (λ a. first_or_further param result n r (λ b. absurd (apart n m b a (sym s)))
      (λ b. one_each (length (met is_bound_name param)) (met (is_beyond (met is_bound_name param)) result) m n k a b s));
}
  where
    apart : (m n : TyName) → is_listed m (met is_bound_name param) ≡ true
        → is_listed n (met (is_beyond (met is_bound_name param)) result) ≡ true → m.number ≡ n.number → ⊥
    apart m n a b s =
        let low = to_last 0 (met is_bound_name param) m h a in
        let high = from_first (length (met is_bound_name param)) (met (is_beyond (met is_bound_name param)) result) n k b in
        omega (arith, low, high, s)

-- ---- names of a unit

own_of_owner : (home : List ℕ) (m n : TyName) (b : Bool) → m.owner ≡ n.owner → is_own home m ≡ b → is_own home n ≡ b
own_of_owner home m n b o e = sym (ap (same_owner (owner.«Unit» home)) o) ∙ e

other_listed : (home : List ℕ) (names : List TyName) (n : TyName) → is_listed n (filter is_not_bound names) ≡ true
    → is_own home n ≡ false → is_listed n (filter (is_other home) names) ≡ true
other_listed home names n h e =
    filter_keeps (is_other home) n names (filter_listed is_not_bound n names h)
    (ap (λ z. not z && not (is_bound_name n)) e ∙ filter_passes is_not_bound n names h)

unit : (home : List ℕ) (names : List TyName) → AreNumbered 0 (met (is_own home) names)
    → Agree (filter (is_other home) names) → Agree (filter is_not_bound names)
unit home names h others = record {
  agree = λ m n l r o s. either_way (is_own home m)
      (λ e. one_each 0 (met (is_own home) names) m n h
      (listed_met (is_own home) m names (filter_listed is_not_bound m names l) e)
      (listed_met (is_own home) n names (filter_listed is_not_bound n names r) (own_of_owner home m n true o e)) s)
      (λ e. others.agree m n (other_listed home names m l e)
      (other_listed home names n r (own_of_owner home m n false o e)) o s);
}

pub names_agree : NumberedNamesAgree
names_agree = record { signature = signature; functor = functor; unit = unit }
