-- Names by their order.
use Rattle.std.proofs.Common.{◌≡◌, ℕ, suc, ◌+◌, refl, sym, ap, ap₂, ◌∙◌, subst, arith, List, [], ◌∷◌, ◌++◌, length, filter, Bool, true, false, ◌&&◌, ◌||◌, not, cond}
use Rattle.semantic_objects.specs.declared.name.TyName.{TyName}
use Rattle.semantic_objects.specs.Symbols.{same_name}
use Rattle.unification.proofs.Walking.{either_way, not_both, or_false_left, or_false_right}
use Rattle.realisation.specs.Names.{is_listed, place_in, once}
use Rattle.realisation.specs.Canonical.{with_number, numbered_in, numbered, met}
use Rattle.realisation.proofs.Listing.{name_is, listed_left, listed_right}
use Rattle.canonical_laws.proofs.Names.{met_passes, listed_met}
use Rattle.name_walks.proofs.Notes.{listed_append}
use Rattle.name_walks.proofs.Once.{tells_names}
use Rattle.canonical_types.specs.Orders.{by_order}

either_arity : (b : Bool) (k : ℕ) (n : TyName) → (cond b (with_number k n) n).arity ≡ n.arity
either_arity true k n = refl
either_arity false k n = refl

-- a name keeps its arity
pub keeps_arity : (order : List TyName) (n : TyName) → (by_order order n).arity ≡ n.arity
keeps_arity order n = either_arity (is_listed n order) (place_in n order) n

either_number : (b : Bool) (k : ℕ) (n : TyName)
    → cond b (with_number k n) n ≡ with_number (cond b (with_number k n) n).number n
either_number true k n = refl
either_number false k n = refl

-- .. and all but its number
pub keeps_name : (order : List TyName) (n : TyName) → by_order order n ≡ with_number (by_order order n).number n
keeps_name order n = either_number (is_listed n order) (place_in n order) n

-- ---- names that are chosen

filter_cond : (p : TyName → Bool) (b : Bool) (y : TyName) (ys : List TyName)
    → filter p (cond b (y ∷ ys) ys) ≡ cond (b && p y) (y ∷ filter p ys) (filter p ys)
filter_cond p true y ys = refl
filter_cond p false y ys = refl

pub both_filters : (p q : TyName → Bool) (ys : List TyName) → filter p (filter q ys) ≡ filter (λ n. q n && p n) ys
both_filters p q [] = refl
both_filters p q (y ∷ ys) = filter_cond p (q y) y (filter q ys)
    ∙ ap (λ z. cond (q y && p y) (y ∷ z) z) (both_filters p q ys)

filter_agrees : (f g : TyName → Bool) → ((n : TyName) → f n ≡ g n) → (ys : List TyName) → filter f ys ≡ filter g ys
filter_agrees f g h [] = refl
filter_agrees f g h (y ∷ ys) = ap₂ (λ b z. cond b (y ∷ z) z) (h y) (filter_agrees f g h ys)

and_turned : (a b : Bool) → (a && b) ≡ (b && a)
and_turned true true = refl
and_turned true false = refl
and_turned false true = refl
and_turned false false = refl

filters_turned : (p q : TyName → Bool) (ys : List TyName) → filter p (filter q ys) ≡ filter q (filter p ys)
filters_turned p q ys = both_filters p q ys
    ∙ filter_agrees (λ n. q n && p n) (λ n. p n && q n) (λ n. and_turned (q n) (p n)) ys
    ∙ sym (both_filters q p ys)

other_passes : (p : TyName → Bool) (x : TyName) → p x ≡ false → (n : TyName) → (not (same_name x n) && p n) ≡ p n
other_passes p x h n = either_way (same_name x n)
    (λ e. ap (λ b. not b && p n) e ∙ sym (subst (λ z. p z ≡ false) (name_is x n e) h))
    (λ e. ap (λ b. not b && p n) e)

filter_gone : (p : TyName → Bool) (x : TyName) → p x ≡ false → (ys : List TyName)
    → filter p (filter (λ m. not (same_name x m)) ys) ≡ filter p ys
filter_gone p x h ys = both_filters p (λ m. not (same_name x m)) ys
    ∙ filter_agrees (λ n. not (same_name x n) && p n) p (other_passes p x h) ys

-- names that are chosen, each once
pub filter_once : (p : TyName → Bool) (xs : List TyName) → filter p (once xs) ≡ once (filter p xs)
filter_once p [] = refl
filter_once p (x ∷ xs) =
    let rest : List TyName = filter (λ m. not (same_name x m)) (once xs) in
    either_way (p x)
    (λ e. ap (λ b. cond b (x ∷ filter p rest) (filter p rest)) e
    ∙ ap (λ z. x ∷ z) (filters_turned p (λ m. not (same_name x m)) (once xs)
    ∙ ap (filter (λ m. not (same_name x m))) (filter_once p xs))
    ∙ sym (ap (λ b. once (cond b (x ∷ filter p xs) (filter p xs))) e))
    (λ e. ap (λ b. cond b (x ∷ filter p rest) (filter p rest)) e
    ∙ filter_gone p x e (once xs) ∙ filter_once p xs
    ∙ sym (ap (λ b. once (cond b (x ∷ filter p xs) (filter p xs))) e))

-- ---- names by the order in which they are met

none_before : (k : ℕ) → k ≡ 0 + k
none_before k = omega arith

pub not_met : (p : TyName → Bool) (n : TyName) (xs : List TyName) → p n ≡ false → is_listed n (met p xs) ≡ false
not_met p n xs e = either_way (is_listed n (met p xs))
    (λ k. absurd (not_both (p n) e (met_passes p n xs k)))
    (λ k. k)

listed_order : (order : List TyName) (n : TyName) → is_listed n order ≡ true
    → by_order order n ≡ with_number (place_in n order) n
listed_order order n e = ap (λ b. cond b (with_number (place_in n order) n) n) e

pub stays : (order : List TyName) (n : TyName) → is_listed n order ≡ false → by_order order n ≡ n
stays order n e = ap (λ b. cond b (with_number (place_in n order) n) n) e

pub order_agrees : (p : TyName → Bool) (xs : List TyName) (n : TyName) → is_listed n xs ≡ true
    → by_order (met p xs) n ≡ numbered p xs 0 (λ m. m) n
order_agrees p xs n l = either_way (p n)
    (λ e. listed_order (met p xs) n (listed_met p n xs l e)
    ∙ ap (λ k. with_number k n) (none_before (place_in n (met p xs)))
    ∙ sym (ap (λ c. cond c (numbered_in (met p xs) 0 n) n) e))
    (λ e. stays (met p xs) n (not_met p n xs e) ∙ sym (ap (λ c. cond c (numbered_in (met p xs) 0 n) n) e))

-- ---- one order behind another

place_left : (n : TyName) (xs ys : List TyName) → is_listed n xs ≡ true → place_in n (xs ++ ys) ≡ place_in n xs
place_left n [] ys e = absurd (cc)
place_left n (x ∷ xs) ys e = either_way (same_name n x)
    (λ k. ap (λ b. cond b 0 (suc (place_in n (xs ++ ys)))) k ∙ sym (ap (λ b. cond b 0 (suc (place_in n xs))) k))
    (λ k. ap (λ b. cond b 0 (suc (place_in n (xs ++ ys)))) k
    ∙ ap suc (place_left n xs ys (sym (ap (λ b. b || is_listed n xs) k) ∙ e))
    ∙ sym (ap (λ b. cond b 0 (suc (place_in n xs))) k))

place_right : (n : TyName) (xs ys : List TyName) → is_listed n xs ≡ false
    → place_in n (xs ++ ys) ≡ length xs + place_in n ys
place_right n [] ys e = none_before (place_in n ys)
place_right n (x ∷ xs) ys e =
    let k : place_in n (xs ++ ys) ≡ length xs + place_in n ys =
    place_right n xs ys (or_false_right (same_name n x) (is_listed n xs) e) in
    ap (λ b. cond b 0 (suc (place_in n (xs ++ ys)))) (or_false_left (same_name n x) (is_listed n xs) e)
    ∙ omega (arith, k)

pub both_orders : (p q : TyName → Bool) (xs : List TyName) (n : TyName) → is_listed n xs ≡ true
    → by_order (met p xs ++ met q xs) n ≡ numbered p xs 0 (numbered q xs (length (met p xs)) (λ m. m)) n
both_orders p q xs n l =
    let first : List TyName = met p xs in
    let next : List TyName = met q xs in
    let rest : TyName = numbered q xs (length first) (λ m. m) n in
    either_way (p n)
    (λ e. (let i : is_listed n first ≡ true = listed_met p n xs l e in
    listed_order (first ++ next) n (listed_left n first next i)
    ∙ ap (λ k. with_number k n) (place_left n first next i ∙ none_before (place_in n first))
    ∙ sym (ap (λ c. cond c (numbered_in first 0 n) rest) e)))
    (λ e. (let i : is_listed n first ≡ false = not_met p n xs e in
    either_way (q n)
    (λ f. listed_order (first ++ next) n (listed_right n first next (listed_met q n xs l f))
    ∙ ap (λ k. with_number k n) (place_right n first next i)
    ∙ sym (ap (λ c. cond c (numbered_in next (length first) n) n) f)
    ∙ sym (ap (λ c. cond c (numbered_in first 0 n) rest) e))
    (λ f. stays (first ++ next) n (listed_append same_name is_listed tells_names n first next
    ∙ ap (λ b. b || is_listed n next) i ∙ not_met q n xs f)
    ∙ sym (ap (λ c. cond c (numbered_in next (length first) n) n) f)
    ∙ sym (ap (λ c. cond c (numbered_in first 0 n) rest) e))))
