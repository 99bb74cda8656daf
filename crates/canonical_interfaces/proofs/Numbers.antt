-- What becomes of names that are numbered by first occurrence.
use Rattle.std.proofs.Common.{◌≡◌, ℕ, ◌+◌, ◌<◌, ◌^◌, refl, sym, ap, ap₂, ◌∙◌, subst, arith, Bool, true, false, ◌||◌, not, cond, List, [], ◌∷◌, ◌++◌, map, filter, length}
use Rattle.std.specs.List.{range_with_len}
use Rattle.std.proofs.lemmas.List.{append-nil, length-map}
use Rattle.semantic_objects.specs.declared.name.TyName.{TyName}
use Rattle.semantic_objects.specs.Symbols.{same_name}
use Rattle.unification.proofs.Walking.{or_left, or_right, or_either}
use Rattle.realisation.specs.Names.{is_listed, once, place_in}
use Rattle.realisation.specs.Canonical.{met, with_number, numbered_in, numbered, is_bound_name}
use Rattle.realisation.proofs.Listing.{Named, name_is, name_same, listed_right}
use Rattle.interface_format.specs.Rules.{IsNumber, HasText, IsTypeName, AreNumbered}
use Rattle.canonical_laws.proofs.Names.{ApartBy, Asked, met_passes, listed_met, once_listed, place_below, place_apart, met_renamed, filter_renamed, yes_or_no}
use Rattle.canonical_interfaces.proofs.Places.{places_number}
use Rattle.canonical_interfaces.proofs.Types.{Keeps}

-- ---- numbering

asked_for : (p : TyName → Bool) (names : List TyName) (first : ℕ) (others : TyName → TyName) (n : TyName)
    → p n ≡ true → numbered p names first others n ≡ numbered_in (met p names) first n
asked_for p names first others n e = ap (λ c. cond c (numbered_in (met p names) first n) (others n)) e

pub not_asked : (p : TyName → Bool) (names : List TyName) (first : ℕ) (others : TyName → TyName) (n : TyName)
    → p n ≡ false → numbered p names first others n ≡ others n
not_asked p names first others n e = ap (λ c. cond c (numbered_in (met p names) first n) (others n)) e

either_keeps : (c : Bool) (i : ℕ) (n m : TyName) → m ≡ with_number m.number n
    → cond c (with_number i n) m ≡ with_number (cond c (with_number i n) m).number n
either_keeps true i n m e = refl
either_keeps false i n m e = e

pub keeps_numbered : (p : TyName → Bool) (names : List TyName) (first : ℕ) (others : TyName → TyName) → Keeps others
    → Keeps (numbered p names first others)
keeps_numbered p names first others k n =
    either_keeps (p n) (first + place_in n (met p names)) n (others n) (k n)

-- the names of a list that pass a test have the numbers from a first one on
pub record NumbersBy (p : TyName → Bool) (xs : List TyName) (first : ℕ) (h : TyName → TyName) : Type 0 where
  pub numbers : (n : TyName) → p n ≡ true → h n ≡ with_number (first + place_in n (met p xs)) n

pub numbers_by : (p : TyName → Bool) (xs : List TyName) (first : ℕ) (others : TyName → TyName)
    → NumbersBy p xs first (numbered p xs first others)
numbers_by p xs first others = record { numbers = λ n e. asked_for p xs first others n e }

number_of : (p : TyName → Bool) (xs : List TyName) (first : ℕ) (h : TyName → TyName) → NumbersBy p xs first h
    → (n : TyName) → p n ≡ true → (h n).number ≡ first + place_in n (met p xs)
number_of p xs first h b n e = ap (λ (m : TyName). m.number) (b.numbers n e)

-- names with one number are one
pub same_number : (p : TyName → Bool) (xs : List TyName) (first : ℕ) (h : TyName → TyName) → NumbersBy p xs first h
    → (m n : TyName) → Asked p xs m → Asked p xs n → (h m).number ≡ (h n).number → m ≡ n
same_number p xs first h b m n i j e =
    let k : (h m).number ≡ first + place_in m (met p xs) = number_of p xs first h b m i.1 in
    let l : (h n).number ≡ first + place_in n (met p xs) = number_of p xs first h b n j.1 in
    let d : place_in m (met p xs) ≡ place_in n (met p xs) = omega (arith, k, l, e) in
    place_apart m n (met p xs) (listed_met p m xs i.0 i.1) (listed_met p n xs j.0 j.1) d

pub apart_by : (p : TyName → Bool) (xs : List TyName) (first : ℕ) (h : TyName → TyName) → NumbersBy p xs first h
    → ApartBy (Asked p xs) h
apart_by p xs first h b m n i j e = same_number p xs first h b m n i j (ap (λ (x : TyName). x.number) e)

map_number : (h : TyName → TyName) (xs : List TyName)
    → map (λ (name : TyName). name.number) (map h xs) ≡ map (λ n. (h n).number) xs
map_number h [] = refl
map_number h (x ∷ xs) = ap (λ z. (h x).number ∷ z) (map_number h xs)

-- they are numbered, in the order in which they are met
pub numbered_by : (p : TyName → Bool) (xs : List TyName) (first : ℕ) (h : TyName → TyName) → NumbersBy p xs first h
    → AreNumbered first (map h (met p xs))
numbered_by p xs first h b =
    map_number h (met p xs)
    ∙ places_number first (filter p xs) (λ n. (h n).number)
    (λ n e. number_of p xs first h b n (met_passes p n xs e))
    ∙ ap (range_with_len first) (sym (length-map (met p xs) h))

-- a number below the end
pub number_below : (p : TyName → Bool) (xs : List TyName) (first : ℕ) (h : TyName → TyName) → NumbersBy p xs first h
    → (n : TyName) → Asked p xs n → (h n).number < first + length (met p xs)
number_below p xs first h b n i =
    let k : (h n).number ≡ first + place_in n (met p xs) = number_of p xs first h b n i.1 in
    let l : place_in n (met p xs) < length (met p xs) = place_below n (met p xs) (listed_met p n xs i.0 i.1) in
    omega (arith, k, l)

-- ---- what is asked of a name

-- its owner and its arity can be written; it can be as a whole where it isn't bound, after what becomes of it
pub record IsReady (own : TyName → TyName) (n : TyName) : Type 0 where
  pub owner : HasText n.owner
  pub arity : IsNumber n.arity
  pub settled : is_bound_name n ≡ false → IsTypeName (own n)

numbered_fits : (i : ℕ) (n : TyName) → HasText n.owner → IsNumber n.arity → IsNumber i → IsTypeName (with_number i n)
numbered_fits i n o a k = record { owner = o; number = k; arity = a }

-- a name that is numbered can be written
pub fits_by : (p : TyName → Bool) (xs : List TyName) (first : ℕ) (h : TyName → TyName) → NumbersBy p xs first h
    → (n : TyName) → Asked p xs n → HasText n.owner → IsNumber n.arity → IsNumber (first + length (met p xs))
    → IsTypeName (h n)
fits_by p xs first h b n i o a c =
    let l : place_in n (met p xs) < length (met p xs) = place_below n (met p xs) (listed_met p n xs i.0 i.1) in
    let most : first + length (met p xs) < 2 ^ 32 = c.below in
    let few : first + place_in n (met p xs) < 2 ^ 32 = omega (arith, l, most) in
    subst IsTypeName (sym (b.numbers n i.1))
    (numbered_fits (first + place_in n (met p xs)) n o a (record { below = few }))

-- ---- lists that are met

-- those that are met among renamed names
pub met_of_renamed : (p q : TyName → Bool) (h : TyName → TyName) (xs ys : List TyName) → ys ≡ map h xs
    → Named (λ n. q (h n) ≡ p n) xs → ApartBy (Asked p xs) h → met q ys ≡ map h (met p xs)
met_of_renamed p q h xs ys e t a = met_renamed p q h xs ys
    (ap (filter q) e ∙ filter_renamed p q h h xs t (λ n l k. refl)) a

filter_agrees : (p q : TyName → Bool) (xs : List TyName) → Named (λ n. p n ≡ q n) xs → filter p xs ≡ filter q xs
filter_agrees p q [] h = refl
filter_agrees p q (x ∷ xs) h = ap₂ (λ c ys. cond c (x ∷ ys) ys)
    (h x (or_left (same_name x x) (is_listed x xs) (name_same x)))
    (filter_agrees p q xs (λ n e. h n (or_right (same_name n x) (is_listed n xs) e)))

pub met_agrees : (p q : TyName → Bool) (xs : List TyName) → Named (λ n. p n ≡ q n) xs → met p xs ≡ met q xs
met_agrees p q xs h = ap once (filter_agrees p q xs h)

none_kept : (p : TyName → Bool) (x : TyName) (xs : List TyName) (c : Bool) → c ≡ false → cond c (x ∷ xs) xs ≡ xs
none_kept p x xs true h = absurd (cc)
none_kept p x xs false h = refl

pub filter_none : (p : TyName → Bool) (xs : List TyName) → Named (λ n. p n ≡ false) xs → filter p xs ≡ []
filter_none p [] h = refl
filter_none p (x ∷ xs) h =
    none_kept p x (filter p xs) (p x) (h x (or_left (same_name x x) (is_listed x xs) (name_same x)))
    ∙ filter_none p xs (λ n e. h n (or_right (same_name n x) (is_listed n xs) e))

-- what is neither in a list nor one name
abbrev fresh : List TyName → TyName → Bool
fresh d m = not (is_listed m d)

turned : (m n : TyName) → same_name m n ≡ same_name n m
turned m n = yes_or_no (same_name m n) (same_name n m)
    (λ e. subst (λ z. same_name n z ≡ true) (sym (name_is m n e)) (name_same n))
    (λ e. subst (λ z. same_name m z ≡ true) (sym (name_is n m e)) (name_same m))

two_tests : (a b : Bool) (m : TyName) (ys zs : List TyName) → ys ≡ zs
    → cond (not a) (cond (not b) (m ∷ ys) ys) ys ≡ cond (not (a || b)) (m ∷ zs) zs
two_tests true b m ys zs e = e
two_tests false b m ys zs e = ap (λ z. cond (not b) (m ∷ z) z) e

through : (p : TyName → Bool) (a : Bool) (m : TyName) (ys : List TyName)
    → filter p (cond (not a) (m ∷ ys) ys) ≡ cond (not a) (cond (p m) (m ∷ filter p ys) (filter p ys)) (filter p ys)
through p true m ys = refl
through p false m ys = refl

filter_twice : (d : List TyName) (x : TyName) (ms : List TyName)
    → filter (fresh d) (filter (λ m. not (same_name x m)) ms) ≡ filter (fresh (x ∷ d)) ms
filter_twice d x [] = refl
filter_twice d x (m ∷ ms) =
    through (fresh d) (same_name x m) m (filter (λ n. not (same_name x n)) ms)
    ∙ two_tests (same_name x m) (is_listed m d) m (filter (fresh d) (filter (λ n. not (same_name x n)) ms))
    (filter (fresh (x ∷ d)) ms) (filter_twice d x ms)
    ∙ ap (λ b. cond (not (b || is_listed m d)) (m ∷ filter (fresh (x ∷ d)) ms) (filter (fresh (x ∷ d)) ms))
    (turned x m)

listed_not_fresh : (d : List TyName) (n : TyName) → is_listed n d ≡ true → fresh d n ≡ false
listed_not_fresh d n e = ap not e

listed_middle : (n x : TyName) (xs d : List TyName) → is_listed n (xs ++ d) ≡ true → is_listed n (xs ++ x ∷ d) ≡ true
listed_middle n x [] d h = or_right (same_name n x) (is_listed n d) h
listed_middle n x (y ∷ xs) d h = or_either (same_name n y) (is_listed n (xs ++ d)) h
    (λ e. or_left (same_name n y) (is_listed n (xs ++ x ∷ d)) e)
    (λ e. or_right (same_name n y) (is_listed n (xs ++ x ∷ d)) (listed_middle n x xs d e))

-- names that are known already add nothing
known_later : (d xs ys : List TyName) → ((n : TyName) → is_listed n ys ≡ true → is_listed n (xs ++ d) ≡ true)
    → filter (fresh d) (once (xs ++ ys)) ≡ filter (fresh d) (once xs)
known_later d [] ys h = filter_none (fresh d) (once ys) (λ n e. listed_not_fresh d n (h n (once_listed n ys e)))
known_later d (x ∷ xs) ys h = ap (λ z. cond (fresh d x) (x ∷ z) z)
    (filter_twice d x (once (xs ++ ys))
    ∙ known_later (x ∷ d) xs ys (λ n e. moved n (h n e))
    ∙ sym (filter_twice d x (once xs)))
  where
    moved : (n : TyName) → is_listed n ((x ∷ xs) ++ d) ≡ true → is_listed n (xs ++ x ∷ d) ≡ true
    moved n k = or_either (same_name n x) (is_listed n (xs ++ d)) k
        (λ i. listed_right n xs (x ∷ d) (or_left (same_name n x) (is_listed n d) i))
        (λ i. listed_middle n x xs d i)

all_fresh : (xs : List TyName) → filter (fresh []) xs ≡ xs
all_fresh [] = refl
all_fresh (x ∷ xs) = ap (λ z. x ∷ z) (all_fresh xs)

pub once_known : (xs ys : List TyName) → ((n : TyName) → is_listed n ys ≡ true → is_listed n xs ≡ true)
    → once (xs ++ ys) ≡ once xs
once_known xs ys h = sym (all_fresh (once (xs ++ ys)))
    ∙ known_later [] xs ys (λ n e. subst (λ z. is_listed n z ≡ true) (sym (append-nil xs)) (h n e))
    ∙ all_fresh (once xs)
