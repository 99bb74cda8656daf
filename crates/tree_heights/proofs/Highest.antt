-- The highest of several heights.
use Rattle.std.proofs.Common.{◌≡◌, ℕ, suc, ◌+◌, ◌<◌, max, List, [], ◌∷◌, ◌++◌, length, map, flat_map, get_or, drop, refl, sym, ap, ap₂, ◌∙◌, arith, add-one, drop-cons}
use Rattle.std.proofs.lemmas.List.{map-append}
use Rattle.std.proofs.Math.Nat.{zero-max, max-zero}
use Rattle.tree_heights.specs.Heights.{highest_with, highest}

-- of one
pub alone : (h : ℕ) → highest (h ∷ []) ≡ h
alone h = zero-max h

-- of two
pub two : (a b : ℕ) → highest (a ∷ b ∷ []) ≡ max a b
two a b = ap (λ h. max h b) (zero-max a)

max-assoc : (a b c : ℕ) → max (max a b) c ≡ max a (max b c)
max-assoc a b c = omega arith

-- what is made of what is made of each item
pub map-map : {A B C : Type 0} (f : B → C) (g : A → B) (xs : List A) → map f (map g xs) ≡ map (λ x. f (g x)) xs
map-map f g [] = refl
map-map f g (x ∷ xs) = ap (λ rest. f (g x) ∷ rest) (map-map f g xs)

-- the same of each item
pub map-same : {A B : Type 0} (f g : A → B) → ((x : A) → f x ≡ g x) → (xs : List A) → map f xs ≡ map g xs
map-same f g same [] = refl
map-same f g same (x ∷ xs) = ap₂ (λ y ys. y ∷ ys) (same x) (map-same f g same xs)

pub highest_with-append : (h : ℕ) (xs ys : List ℕ) → highest_with h (xs ++ ys) ≡ highest_with (highest_with h xs) ys
highest_with-append h [] ys = refl
highest_with-append h (x ∷ xs) ys = highest_with-append (max h x) xs ys

pub highest_with-is : (h : ℕ) (xs : List ℕ) → highest_with h xs ≡ max h (highest xs)
highest_with-is h [] = sym (max-zero h)
highest_with-is h (x ∷ xs) =
    highest_with-is (max h x) xs ∙ max-assoc h x (highest xs)
    ∙ ap (max h) (sym (highest_with-is x xs) ∙ ap (λ first. highest_with first xs) (sym (zero-max x)))

-- of items in groups
pub grouped : {A B : Type 0} (f : B → ℕ) (g : A → List B) (xs : List A) (h : ℕ)
    → highest_with h (map f (flat_map g xs)) ≡ highest_with h (map (λ x. highest (map f (g x))) xs)
grouped f g [] h = refl
grouped f g (x ∷ xs) h =
    ap (highest_with h) (map-append f (g x) (flat_map g xs))
    ∙ highest_with-append h (map f (g x)) (map f (flat_map g xs))
    ∙ ap (λ first. highest_with first (map f (flat_map g xs))) (highest_with-is h (map f (g x)))
    ∙ grouped f g xs (max h (highest (map f (g x))))

-- what is left of a list, whose next item is this
left_at : {B : Type 0} (items : List B) (i : ℕ) (item : B) → i < length items → item ≡ get_or items i item
    → drop i items ≡ item ∷ drop (i + 1) items
left_at items i item lt is = drop-cons items i item lt ∙ ap (λ b. b ∷ drop (suc i) items) (sym is)
    ∙ ap (λ n. item ∷ drop n items) (sym (add-one i))

-- a tree more
pub higher_step : {B : Type 0} (height : B → ℕ) (items : List B) (i : ℕ) (item : B) (made more new whole : ℕ)
    → i < length items → item ≡ get_or items i item → more ≡ height item → new ≡ max made more
    → highest_with made (map height (drop i items)) ≡ whole
    → highest_with new (map height (drop (i + 1) items)) ≡ whole
higher_step height items i item made more new whole lt here more_is new_is is =
    let rest = map height (drop (i + 1) items) in
    ap (λ first. highest_with first rest) (new_is ∙ ap (max made) more_is)
    ∙ ap (λ left. highest_with made (map height left)) (sym (left_at items i item lt here))
    ∙ is
