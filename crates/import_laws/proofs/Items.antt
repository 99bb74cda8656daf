-- What holds of all items of two lists together.
use Rattle.std.proofs.Common.{◌≡◌, List, [], ◌∷◌, ◌++◌, Bool, true, false, ◌&&◌, refl, All, filter, cond}
use Rattle.std.proofs.lemmas.List.Elements.{All-head, All-tail}
use Rattle.std.specs.List.{list_all}
use Rattle.static_semantics.specs.Holding.{AllItems}

pub front : {A : Type 0} (R : A → Type 0) (xs ys : List A) → AllItems R (xs ++ ys) → AllItems R xs
front R [] ys h = tt
front R (x ∷ xs) ys h = (h.0, front R xs ys h.1)

pub back : {A : Type 0} (R : A → Type 0) (xs ys : List A) → AllItems R (xs ++ ys) → AllItems R ys
back R [] ys h = h
back R (x ∷ xs) ys h = back R xs ys h.1

pub items_of_all : {A : Type 0} (R : A → Type 0) (xs : List A) → All R xs → AllItems R xs
items_of_all R [] h = tt
items_of_all R (x ∷ xs) h = (All-head R x xs h, items_of_all R xs (All-tail R x xs h))

pub and_left : (a b : Bool) → (a && b) ≡ true → a ≡ true
and_left true b h = refl
and_left false b h = absurd (cc)

pub and_right : (a b : Bool) → (a && b) ≡ true → b ≡ true
and_right true b h = h
and_right false b h = absurd (cc)

-- a test that holds of all that another one picks holds of all others too, where it holds of those anyhow
picked : {A : Type 0} (pick test : A → Bool) (R : A → Type 0) (x : A) (xs : List A) (b : Bool) → pick x ≡ b
    → ((x : A) → test x ≡ true → R x) → ((x : A) → pick x ≡ false → R x)
    → (list_all test (cond b (x ∷ filter pick xs) (filter pick xs)) ≡ true)
    → (list_all test (filter pick xs) ≡ true → AllItems R xs) → R x × AllItems R xs
picked pick test R x xs true e f g h more = (f x (and_left _ _ h), more (and_right _ _ h))
picked pick test R x xs false e f g h more = (g x e, more h)

pub all_picked : {A : Type 0} (pick test : A → Bool) (R : A → Type 0) (xs : List A)
    → ((x : A) → test x ≡ true → R x) → ((x : A) → pick x ≡ false → R x)
    → list_all test (filter pick xs) ≡ true → AllItems R xs
all_picked pick test R [] f g h = tt
all_picked pick test R (x ∷ xs) f g h =
    picked pick test R x xs (pick x) refl f g h (all_picked pick test R xs f g)
