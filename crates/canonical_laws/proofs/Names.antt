-- Lists of type names that are renamed: what is listed, each once, by what place.
use Rattle.std.proofs.Common.{◌≡◌, ℕ, suc, ◌+◌, ◌<◌, refl, sym, ap, ap₂, ◌∙◌, subst, arith, Bool, true, false, ◌||◌, not, cond, List, [], ◌∷◌, map, filter, length}
use Rattle.semantic_objects.specs.declared.name.TyName.{TyName}
use Rattle.semantic_objects.specs.Symbols.{same_name}
use Rattle.unification.proofs.Walking.{either_way, not_both, or_left, or_right, or_either}
use Rattle.realisation.specs.Names.{is_listed, once, place_in}
use Rattle.realisation.specs.Canonical.{met, with_number, numbered_in, numbered}
use Rattle.realisation.proofs.Listing.{name_is, name_same, Named}

pub yes_or_no : (b c : Bool) → (b ≡ true → c ≡ true) → (c ≡ true → b ≡ true) → b ≡ c
yes_or_no true c h k = sym (h refl)
yes_or_no false true h k = k refl
yes_or_no false false h k = refl

abbrev pub Listed : List TyName → TyName → Type 0
Listed xs n = is_listed n xs ≡ true

-- no two names of which `P` holds become one
abbrev pub ApartBy : (TyName → Type 0) → (TyName → TyName) → Type 0
ApartBy P h = (m n : TyName) → P m → P n → h m ≡ h n → m ≡ n

pub same_renamed : (h : TyName → TyName) (m n : TyName) → (h m ≡ h n → m ≡ n)
    → same_name (h m) (h n) ≡ same_name m n
same_renamed h m n a = yes_or_no (same_name (h m) (h n)) (same_name m n)
    (λ e. subst (λ z. same_name m z ≡ true) (a (name_is (h m) (h n) e)) (name_same m))
    (λ e. subst (λ z. same_name (h m) (h z) ≡ true) (name_is m n e) (name_same (h m)))

-- ---- parts of a list

pub rest_named : (P : TyName → Type 0) (x : TyName) (xs : List TyName) → Named P (x ∷ xs) → Named P xs
rest_named P x xs h n e = h n (or_right (same_name n x) (is_listed n xs) e)

pub first_named : (P : TyName → Type 0) (x : TyName) (xs : List TyName) → Named P (x ∷ xs) → P x
first_named P x xs h = h x (or_left (same_name x x) (is_listed x xs) (name_same x))

pub map_agrees : (f g : TyName → TyName) (xs : List TyName) → Named (λ n. f n ≡ g n) xs → map f xs ≡ map g xs
map_agrees f g [] h = refl
map_agrees f g (x ∷ xs) h = ap₂ (λ y ys. y ∷ ys) (first_named (λ n. f n ≡ g n) x xs h)
    (map_agrees f g xs (rest_named (λ n. f n ≡ g n) x xs h))

pub map_map : (f g : TyName → TyName) (xs : List TyName) → map g (map f xs) ≡ map (λ n. g (f n)) xs
map_map f g [] = refl
map_map f g (x ∷ xs) = ap (λ ys. g (f x) ∷ ys) (map_map f g xs)

-- a name that is listed, renamed
pub listed_renamed : (h : TyName → TyName) (n : TyName) (xs : List TyName) → is_listed n xs ≡ true
    → is_listed (h n) (map h xs) ≡ true
listed_renamed h n [] e = absurd (cc)
listed_renamed h n (x ∷ xs) e = or_either (same_name n x) (is_listed n xs) e
    (λ k. or_left (same_name (h n) (h x)) (is_listed (h n) (map h xs))
    (subst (λ z. same_name (h n) (h z) ≡ true) (name_is n x k) (name_same (h n))))
    (λ k. or_right (same_name (h n) (h x)) (is_listed (h n) (map h xs)) (listed_renamed h n xs k))

-- .. and the name that it was
pub listed_before : (h : TyName → TyName) (x : TyName) (xs : List TyName) → is_listed x (map h xs) ≡ true
    → (m : TyName) × (is_listed m xs ≡ true) × (x ≡ h m)
listed_before h x [] e = absurd (cc)
listed_before h x (y ∷ xs) e = or_either (same_name x (h y)) (is_listed x (map h xs)) e
    (λ k. (y, or_left (same_name y y) (is_listed y xs) (name_same y), name_is x (h y) k))
    (λ k. (let m : (m : TyName) × (is_listed m xs ≡ true) × (x ≡ h m) = listed_before h x xs k in
    (m.0, or_right (same_name m.0 y) (is_listed m.0 xs) m.1, m.2)))

-- ---- names that pass a test

kept_by : (p : TyName → Bool) (n x : TyName) (xs : List TyName) (c : Bool) → p x ≡ c
    → is_listed n (cond c (x ∷ xs) xs) ≡ true → ((same_name n x || is_listed n xs) ≡ true)
kept_by p n x xs true e h = h
kept_by p n x xs false e h = or_right (same_name n x) (is_listed n xs) h

-- what a filter keeps is listed, and passes
pub filter_listed : (p : TyName → Bool) (n : TyName) (xs : List TyName) → is_listed n (filter p xs) ≡ true
    → is_listed n xs ≡ true
filter_listed p n [] h = h
filter_listed p n (x ∷ xs) h = or_either (same_name n x) (is_listed n (filter p xs))
    (kept_by p n x (filter p xs) (p x) refl h)
    (λ e. or_left (same_name n x) (is_listed n xs) e)
    (λ e. or_right (same_name n x) (is_listed n xs) (filter_listed p n xs e))

passes_by : (p : TyName → Bool) (n x : TyName) (xs : List TyName) (c : Bool) → p x ≡ c
    → (is_listed n xs ≡ true → p n ≡ true) → is_listed n (cond c (x ∷ xs) xs) ≡ true → p n ≡ true
passes_by p n x xs true e k h = or_either (same_name n x) (is_listed n xs) h
    (λ i. subst (λ z. p z ≡ true) (sym (name_is n x i)) e) k
passes_by p n x xs false e k h = k h

pub filter_passes : (p : TyName → Bool) (n : TyName) (xs : List TyName) → is_listed n (filter p xs) ≡ true
    → p n ≡ true
filter_passes p n [] h = absurd (cc)
filter_passes p n (x ∷ xs) h = passes_by p n x (filter p xs) (p x) refl (filter_passes p n xs) h

keeps_by : (n x : TyName) (xs ys : List TyName) (c : Bool) → (is_listed n xs ≡ true → is_listed n ys ≡ true)
    → (same_name n x ≡ true → c ≡ true) → (same_name n x || is_listed n xs) ≡ true
    → is_listed n (cond c (x ∷ ys) ys) ≡ true
keeps_by n x xs ys true k s h = or_either (same_name n x) (is_listed n xs) h
    (λ e. or_left (same_name n x) (is_listed n ys) e) (λ e. or_right (same_name n x) (is_listed n ys) (k e))
keeps_by n x xs ys false k s h = or_either (same_name n x) (is_listed n xs) h
    (λ e. absurd (not_both false refl (s e))) k

-- and all of them are kept
pub filter_keeps : (p : TyName → Bool) (n : TyName) (xs : List TyName) → is_listed n xs ≡ true → p n ≡ true
    → is_listed n (filter p xs) ≡ true
filter_keeps p n [] h k = h
filter_keeps p n (x ∷ xs) h k = keeps_by n x xs (filter p xs) (p x) (λ e. filter_keeps p n xs e k)
    (λ e. subst (λ z. p z ≡ true) (name_is n x e) k) h

filter_step : (p q : TyName → Bool) (h f : TyName → TyName) (x : TyName) (ys : List TyName) (c : Bool) → p x ≡ c
    → (p x ≡ true → h x ≡ f x) → cond c (h x ∷ map f ys) (map f ys) ≡ map f (cond c (x ∷ ys) ys)
filter_step p q h f x ys true e k = ap (λ y. y ∷ map f ys) (k e)
filter_step p q h f x ys false e k = refl

-- a filter of renamed names, where those that pass are renamed as another function has it
pub filter_renamed : (p q : TyName → Bool) (h f : TyName → TyName) (xs : List TyName)
    → Named (λ n. q (h n) ≡ p n) xs → Named (λ n. p n ≡ true → h n ≡ f n) xs
    → filter q (map h xs) ≡ map f (filter p xs)
filter_renamed p q h f [] t a = refl
filter_renamed p q h f (x ∷ xs) t a =
    ap₂ (λ c ys. cond c (h x ∷ ys) ys) (first_named (λ n. q (h n) ≡ p n) x xs t)
    (filter_renamed p q h f xs (rest_named (λ n. q (h n) ≡ p n) x xs t)
    (rest_named (λ n. p n ≡ true → h n ≡ f n) x xs a))
    ∙ filter_step p q h f x (filter p xs) (p x) refl (first_named (λ n. p n ≡ true → h n ≡ f n) x xs a)

-- ---- each once

pub once_listed : (n : TyName) (xs : List TyName) → is_listed n (once xs) ≡ true → is_listed n xs ≡ true
once_listed n [] h = h
once_listed n (x ∷ xs) h = or_either (same_name n x) (is_listed n (filter (λ m. not (same_name x m)) (once xs))) h
    (λ e. or_left (same_name n x) (is_listed n xs) e)
    (λ e. or_right (same_name n x) (is_listed n xs)
    (once_listed n xs (filter_listed (λ m. not (same_name x m)) n (once xs) e)))

not_true : (c : Bool) → c ≡ false → not c ≡ true
not_true true h = absurd (cc)
not_true false h = refl

pub listed_once : (n : TyName) (xs : List TyName) → is_listed n xs ≡ true → is_listed n (once xs) ≡ true
listed_once n [] h = h
listed_once n (x ∷ xs) h = either_way (same_name n x)
    (λ e. or_left (same_name n x) (is_listed n (filter (λ m. not (same_name x m)) (once xs))) e)
    (λ e. or_right (same_name n x) (is_listed n (filter (λ m. not (same_name x m)) (once xs)))
    (filter_keeps (λ m. not (same_name x m)) n (once xs)
    (listed_once n xs (or_either (same_name n x) (is_listed n xs) h (λ k. absurd (not_both (same_name n x) e k)) (λ k.
    k)))
    (not_true (same_name x n) (yes_or_no (same_name x n) (same_name n x)
    (λ k. subst (λ z. same_name z x ≡ true) (name_is x n k) (name_same x))
    (λ k. subst (λ z. same_name x z ≡ true) (sym (name_is n x k)) (name_same x)) ∙ e))))

pub once_renamed : (h : TyName → TyName) (xs : List TyName) → ApartBy (Listed xs) h
    → once (map h xs) ≡ map h (once xs)
once_renamed h [] a = refl
once_renamed h (x ∷ xs) a = ap (λ ys. h x ∷ ys)
    (ap (filter (λ m. not (same_name (h x) m))) (once_renamed h xs (λ m n i j. a m n
    (or_right (same_name m x) (is_listed m xs) i) (or_right (same_name n x) (is_listed n xs) j)))
    ∙ filter_renamed (λ m. not (same_name x m)) (λ m. not (same_name (h x) m)) h h (once xs)
    (λ n l. ap not (same_renamed h x n (a x n (or_left (same_name x x) (is_listed x xs) (name_same x))
    (or_right (same_name n x) (is_listed n xs) (once_listed n xs l))))) (λ n l e. refl))

pub place_renamed : (h : TyName → TyName) (n : TyName) (xs : List TyName) → Named (λ m. h n ≡ h m → n ≡ m) xs
    → place_in (h n) (map h xs) ≡ place_in n xs
place_renamed h n [] a = refl
place_renamed h n (x ∷ xs) a = ap₂ (λ c k. cond c 0 (suc k))
    (same_renamed h n x (first_named (λ m. h n ≡ h m → n ≡ m) x xs a))
    (place_renamed h n xs (rest_named (λ m. h n ≡ h m → n ≡ m) x xs a))

-- ---- places

place_here : (n x : TyName) (xs : List TyName) (b : Bool) → same_name n x ≡ b
    → place_in n (x ∷ xs) ≡ cond b 0 (suc (place_in n xs))
place_here n x xs b e = ap (λ z. cond z 0 (suc (place_in n xs))) e

listed_rest : (n x : TyName) (xs : List TyName) → same_name n x ≡ false → is_listed n (x ∷ xs) ≡ true
    → is_listed n xs ≡ true
listed_rest n x xs e h = sym (ap (λ z. z || is_listed n xs) e) ∙ h

pub place_below : (n : TyName) (xs : List TyName) → is_listed n xs ≡ true → place_in n xs < length xs
place_below n [] h = absurd (cc)
place_below n (x ∷ xs) h = either_way (same_name n x)
    (λ e. let k : place_in n (x ∷ xs) ≡ 0 = place_here n x xs true e in omega (arith, k))
    (λ e. let k : place_in n (x ∷ xs) ≡ suc (place_in n xs) = place_here n x xs false e in
    let l : place_in n xs < length xs = place_below n xs (listed_rest n x xs e h) in omega (arith, k, l))

-- two names of a list at one place are one
pub place_apart : (m n : TyName) (xs : List TyName) → is_listed m xs ≡ true → is_listed n xs ≡ true
    → place_in m xs ≡ place_in n xs → m ≡ n
place_apart m n [] h k e = absurd (cc)
place_apart m n (x ∷ xs) h k e = either_way (same_name m x)
    (λ i. either_way (same_name n x)
    (λ j. name_is m x i ∙ sym (name_is n x j))
    (λ j. let a : place_in m (x ∷ xs) ≡ 0 = place_here m x xs true i in
    let b : place_in n (x ∷ xs) ≡ suc (place_in n xs) = place_here n x xs false j in
    absurd (omega (arith, a, b, e))))
    (λ i. either_way (same_name n x)
    (λ j. let a : place_in m (x ∷ xs) ≡ suc (place_in m xs) = place_here m x xs false i in
    let b : place_in n (x ∷ xs) ≡ 0 = place_here n x xs true j in
    absurd (omega (arith, a, b, e)))
    (λ j. let a : place_in m (x ∷ xs) ≡ suc (place_in m xs) = place_here m x xs false i in
    let b : place_in n (x ∷ xs) ≡ suc (place_in n xs) = place_here n x xs false j in
    let l : place_in m xs ≡ place_in n xs = omega (arith, a, b, e) in
    place_apart m n xs (listed_rest m x xs i h) (listed_rest n x xs j k) l))

-- ---- names that are asked for

pub met_listed : (p : TyName → Bool) (n : TyName) (xs : List TyName) → is_listed n (met p xs) ≡ true
    → is_listed n xs ≡ true
met_listed p n xs h = filter_listed p n xs (once_listed n (filter p xs) h)

pub met_passes : (p : TyName → Bool) (n : TyName) (xs : List TyName) → is_listed n (met p xs) ≡ true → p n ≡ true
met_passes p n xs h = filter_passes p n xs (once_listed n (filter p xs) h)

pub listed_met : (p : TyName → Bool) (n : TyName) (xs : List TyName) → is_listed n xs ≡ true → p n ≡ true
    → is_listed n (met p xs) ≡ true
listed_met p n xs h k = listed_once n (filter p xs) (filter_keeps p n xs h k)

-- a name of a list that passes a test
abbrev pub Asked : (TyName → Bool) → List TyName → TyName → Type 0
Asked p xs n = (is_listed n xs ≡ true) × (p n ≡ true)

-- those that are asked for, after all names were renamed
pub met_renamed : (p q : TyName → Bool) (f : TyName → TyName) (xs ys : List TyName)
    → filter q ys ≡ map f (filter p xs) → ApartBy (Asked p xs) f → met q ys ≡ map f (met p xs)
met_renamed p q f xs ys e a = ap once e
    ∙ once_renamed f (filter p xs) (λ m n i j. a m n (filter_listed p m xs i, filter_passes p m xs i)
    (filter_listed p n xs j, filter_passes p n xs j))

-- the number that a name gets
abbrev number_by : TyName → ℕ → TyName
number_by n k = with_number k n

pub numbered_renamed : (p q : TyName → Bool) (f : TyName → TyName) (xs ys : List TyName) (first : ℕ)
    (k l : TyName → TyName) → met q ys ≡ map f (met p xs) → ApartBy (Asked p xs) f → (n h : TyName)
    → is_listed n xs ≡ true → q h ≡ p n → (p n ≡ true → h ≡ f n) → h ≡ with_number h.number n
    → (p n ≡ false → l h ≡ k n) → numbered q ys first l h ≡ numbered p xs first k n
numbered_renamed p q f xs ys first k l e a n h i t s keep others =
    ap (λ c. cond c (numbered_in (met q ys) first h) (l h)) t ∙ ways (p n) refl
  where
    same_but : (j : ℕ) → with_number j h ≡ with_number j n
    same_but j = ap (with_number j) keep

    place : p n ≡ true → place_in h (met q ys) ≡ place_in n (met p xs)
    place c = ap₂ place_in (s c) e ∙ place_renamed f n (met p xs)
        (λ m o x. a n m (i, c) (met_listed p m xs o, met_passes p m xs o) x)

    ways : (c : Bool) → p n ≡ c → cond c (numbered_in (met q ys) first h) (l h)
        ≡ cond c (numbered_in (met p xs) first n) (k n)
    ways true c = ap (λ x. with_number (first + x) h) (place c) ∙ same_but (first + place_in n (met p xs))
    ways false c = others c
