-- Names that are put for others, place by place.
use Rattle.std.proofs.Common.{◌≡◌, ℕ, suc, ◌+◌, ◌<◌, ◌≤◌, List, [], ◌∷◌, ◌++◌, length, refl, sym, ap, ◌∙◌, subst, arith, Some, Bool, true, false, ◌||◌, ◌&&◌, cond, ◌⊎◌, inl, inr}
use Rattle.semantic_objects.specs.declared.name.Owner.TheVariants as owner
use Rattle.semantic_objects.specs.declared.name.TyName.{TyName}
use Rattle.semantic_objects.specs.declared.entry.TypeFn.{TypeFn}
use Rattle.semantic_objects.specs.Symbols.{same_name}
use Rattle.unification.proofs.Walking.{or_left, or_right, or_either, and_left, and_right, and_both}
use Rattle.realisation.specs.Names.{is_listed}
use Rattle.realisation.specs.Realised.{of_rows}
use Rattle.realisation.proofs.Listing.{name_is, name_same}
use Rattle.static_semantics.specs.DatatypeInference.{own_name, own_type}
use Rattle.module_semantics.specs.SignatureNames.{rows_between, unit_names, bound_names}
use Rattle.unit_laws.specs.Parts.{AreBoundFrom}

-- two names stand at one place of two lists
abbrev pub ArePaired : List TyName → List TyName → TyName → TyName → Type 0
ArePaired [] news n m = ⊥
ArePaired (old ∷ olds) [] n m = ⊥
ArePaired (old ∷ olds) (new ∷ news) n m = ((n ≡ old) × (m ≡ new)) ⊎ ArePaired olds news n m

-- ---- what rows put

-- the function is that of a name that is paired with the other
abbrev pub IsPut : List TyName → List TyName → TyName → TypeFn → Type 0
IsPut olds news n f = (m : TyName) × ArePaired olds news n m × (f ≡ (own_type m).function)

first_or : (old new n : TyName) (olds news : List TyName) (c : Bool) (f : TypeFn) → same_name old n ≡ c
    → (of_rows (rows_between olds news) n ≡ Some f → IsPut olds news n f)
    → cond c (Some (own_type new).function) (of_rows (rows_between olds news) n) ≡ Some f
    → IsPut (old ∷ olds) (new ∷ news) n f
first_or old new n olds news true f s g e =
    let k : (own_type new).function ≡ f = cc in
    (new, inl (sym (name_is old n s), refl), sym k)
first_or old new n olds news false f s g e = let h : IsPut olds news n f = g e in (h.0, inr h.1, h.2)

pub put_is : (olds news : List TyName) (n : TyName) (f : TypeFn) → of_rows (rows_between olds news) n ≡ Some f
    → IsPut olds news n f
put_is [] news n f e = absurd (cc)
put_is (old ∷ olds) [] n f e = absurd (cc)
put_is (old ∷ olds) (new ∷ news) n f e =
    first_or old new n olds news (same_name old n) f refl (put_is olds news n f) e

-- ---- lists one after another

pub paired_either : {P : Type 0} (xs ys cs ds : List TyName) (n m : TyName) → length xs ≡ length cs
    → ArePaired (xs ++ ys) (cs ++ ds) n m → (ArePaired xs cs n m → P) → (ArePaired ys ds n m → P) → P
paired_either [] ys [] ds n m e h f g = g h
paired_either [] ys (c ∷ cs) ds n m e h f g = absurd (omega (arith, (let k : 0 ≡ suc (length cs) = e in k)))
paired_either (a ∷ xs) ys [] ds n m e h f g = absurd (omega (arith, (let k : suc (length xs) ≡ 0 = e in k)))
paired_either (a ∷ xs) ys (c ∷ cs) ds n m e (inl h) f g = f (inl h)
paired_either (a ∷ xs) ys (c ∷ cs) ds n m e (inr h) f g = paired_either xs ys cs ds n m
    (let k : suc (length xs) ≡ suc (length cs) = e in omega (arith, k)) h (λ i. f (inr i)) g

pub paired_listed : (olds news : List TyName) (n m : TyName) → ArePaired olds news n m → is_listed n olds ≡ true
paired_listed [] news n m h = absurd h
paired_listed (old ∷ olds) [] n m h = absurd h
paired_listed (old ∷ olds) (new ∷ news) n m (inl h) = or_left (same_name n old) (is_listed n olds)
    (subst (λ z. same_name n z ≡ true) h.0 (name_same n))
paired_listed (old ∷ olds) (new ∷ news) n m (inr h) = or_right (same_name n old) (is_listed n olds)
    (paired_listed olds news n m h)

-- ---- names of the unit

pub record IsUnitFrom (home : List ℕ) (from to : ℕ) (name : TyName) : Type 0 where
  pub owner : name.owner ≡ owner.«Unit» home
  pub from_on : from ≤ name.number
  pub below : name.number < to

unit_later : (home : List ℕ) (k to : ℕ) (n : TyName) → IsUnitFrom home (suc k) to n → IsUnitFrom home k to n
unit_later home k to n h = record {
  owner = h.owner;
  from_on = (let l : suc k ≤ n.number = h.from_on in
      omega (arith, l));
  below = h.below;
}

is_first : (home : List ℕ) (k : ℕ) (x : TyName) (xs : List TyName) (n : TyName)
    → n ≡ own_name home k x.arity x.eq → IsUnitFrom home k (k + length (x ∷ xs)) n
is_first home k x xs n e = record {
  owner = ap (λ (z : TyName). z.owner) e;
  from_on = (let l : n.number ≡ k = ap (λ (z : TyName). z.number) e in omega (arith, l));
  below = (let l : n.number ≡ k = ap (λ (z : TyName). z.number) e in
      let j : n.number < k + suc (length xs) = omega (arith, l) in j);
}

at_length : (home : List ℕ) (k : ℕ) (x : TyName) (xs : List TyName) (n : TyName)
    → IsUnitFrom home (suc k) (suc k + length xs) n → IsUnitFrom home k (k + length (x ∷ xs)) n
at_length home k x xs n h = unit_later home k (k + length (x ∷ xs)) n
    (subst (λ z. IsUnitFrom home (suc k) z n)
    (let l : suc k + length xs ≡ k + suc (length xs) = omega arith in l) h)

-- .. that are put for others
pub paired_from : (home : List ℕ) (k : ℕ) (xs : List TyName) (m n : TyName)
    → ArePaired xs (unit_names home k xs) m n → IsUnitFrom home k (k + length xs) n
paired_from home k [] m n h = absurd h
paired_from home k (x ∷ xs) m n (inl h) = is_first home k x xs n h.1
paired_from home k (x ∷ xs) m n (inr h) = at_length home k x xs n (paired_from home (suc k) xs m n h)

pub paired_onto : (home : List ℕ) (k : ℕ) (xs : List TyName) (n m : TyName)
    → ArePaired (unit_names home k xs) xs n m → IsUnitFrom home k (k + length xs) n
paired_onto home k [] n m h = absurd h
paired_onto home k (x ∷ xs) n m (inl h) = is_first home k x xs n h.0
paired_onto home k (x ∷ xs) n m (inr h) = at_length home k x xs n (paired_onto home (suc k) xs n m h)

-- there and back leads to the same name
pub same_pair : (home : List ℕ) (k : ℕ) (xs : List TyName) (n m p : TyName) → ArePaired (unit_names home k xs) xs n m
    → ArePaired xs (unit_names home k xs) p n → m ≡ p
same_pair home k [] n m p h i = absurd h
same_pair home k (x ∷ xs) n m p (inl h) (inl i) = h.1 ∙ sym i.0
same_pair home k (x ∷ xs) n m p (inl h) (inr i) =
    absurd (let l : n.number ≡ k = ap (λ (z : TyName). z.number) h.0 in
    let j : suc k ≤ n.number = (paired_from home (suc k) xs p n i).from_on in omega (arith, l, j))
same_pair home k (x ∷ xs) n m p (inr h) (inl i) =
    absurd (let l : n.number ≡ k = ap (λ (z : TyName). z.number) i.1 in
    let j : suc k ≤ n.number = (paired_onto home (suc k) xs n m h).from_on in omega (arith, l, j))
same_pair home k (x ∷ xs) n m p (inr h) (inr i) = same_pair home (suc k) xs n m p h i

-- ---- bound names

pub listed_below : (k : ℕ) (names : List TyName) (n : TyName) → AreBoundFrom k names → is_listed n names ≡ true
    → n.number < k + length names
listed_below k [] n h l = absurd (cc)
listed_below k (name ∷ names) n h l = or_either (same_name n name) (is_listed n names) l
    (λ e. let i : n.number ≡ name.number = ap (λ (z : TyName). z.number) (name_is n name e) in
    let j : name.number ≡ k = h.1 in
    let b : n.number < k + suc (length names) = omega (arith, i, j) in b)
    (λ e. let i : n.number < suc k + length names = listed_below (suc k) names n h.2 e in
    let b : n.number < k + suc (length names) = omega (arith, i) in b)

pub bound_from : (k : ℕ) (xs : List TyName) (n m : TyName) → ArePaired xs (bound_names k xs) n m → k ≤ m.number
bound_from k [] n m h = absurd h
bound_from k (x ∷ xs) n m (inl h) =
    let l : m.number ≡ k = ap (λ (z : TyName). z.number) h.1 in omega (arith, l)
bound_from k (x ∷ xs) n m (inr h) = let l : suc k ≤ m.number = bound_from (suc k) xs n m h in omega (arith, l)

-- ---- names that come from some of the others

abbrev pub comes_from : List TyName → List TyName → List TyName → TyName → Bool
comes_from [] news names n = false
comes_from (old ∷ olds) [] names n = false
comes_from (old ∷ olds) (new ∷ news) names n =
    (same_name n new && is_listed old names) || comes_from olds news names n

pub comes : (olds news names : List TyName) (m n : TyName) → ArePaired olds news m n → is_listed m names ≡ true
    → comes_from olds news names n ≡ true
comes [] news names m n h l = absurd h
comes (old ∷ olds) [] names m n h l = absurd h
comes (old ∷ olds) (new ∷ news) names m n (inl h) l =
    or_left (same_name n new && is_listed old names) (comes_from olds news names n)
    (and_both (same_name n new) (is_listed old names) (subst (λ z. same_name n z ≡ true) h.1 (name_same n))
    (subst (λ z. is_listed z names ≡ true) h.0 l))
comes (old ∷ olds) (new ∷ news) names m n (inr h) l =
    or_right (same_name n new && is_listed old names) (comes_from olds news names n) (comes olds news names m n h l)

pub came : (olds news names : List TyName) (n : TyName) → comes_from olds news names n ≡ true
    → (m : TyName) × ArePaired olds news m n × (is_listed m names ≡ true)
came [] news names n h = absurd (cc)
came (old ∷ olds) [] names n h = absurd (cc)
came (old ∷ olds) (new ∷ news) names n h =
    or_either (same_name n new && is_listed old names) (comes_from olds news names n) h
    (λ e. (
      old,
      inl (refl, name_is n new (and_left (same_name n new) (is_listed old names) e)),
      and_right (same_name n new) (is_listed old names) e,
    ))
    (λ e. let i : (m : TyName) × ArePaired olds news m n × (is_listed m names ≡ true) = came olds news names n e in
    (i.0, inr i.1, i.2))
