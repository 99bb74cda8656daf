-- Numbers by first occurrence: the places of variables and of names in lists that hold each once.
use Rattle.std.proofs.Common.{◌≡◌, ℕ, zero, suc, ◌+◌, ◌<◌, ◌≤◌, refl, sym, ap, ap₂, ◌∙◌, subst, arith, Bool, true, false, ◌||◌, not, cond, List, [], ◌∷◌, ◌++◌, map, filter, length, eqb, append_assoc}
use Rattle.std.specs.List.{range_with_len}
use Rattle.std.proofs.lemmas.Bool.{eq-eqb, eqb-false, ne_eqb}
use Rattle.std.proofs.lemmas.List.{append-nil}
use Rattle.semantic_objects.specs.declared.name.TyName.{TyName}
use Rattle.semantic_objects.specs.Symbols.{same_name}
use Rattle.semantic_objects.specs.Trees.{Tree, Trees}
use Rattle.unification.specs.Closing.{is_among, place_of, noticed, bound_in, bound_in_all, plug, plug_all}
use Rattle.unification.proofs.Walking.{either_way, or_left, or_right, or_either, not_both}
use Rattle.realisation.specs.Names.{is_listed, once, place_in}
use Rattle.realisation.proofs.Listing.{Named, name_is, name_same}
use Rattle.canonical_laws.proofs.Names.{filter_listed, filter_passes}

-- ---- ranges

pub range_snoc : (a n j : ℕ) → a + n ≡ j → range_with_len a (suc n) ≡ range_with_len a n ++ j ∷ []
range_snoc a zero j e = let k : a ≡ j = omega (arith, e) in ap (λ z. z ∷ []) k
range_snoc a (suc n) j e = let k : (a + 1) + n ≡ j = omega (arith, e) in ap (λ z. a ∷ z) (range_snoc (a + 1) n j k)

pub range_more : (a n : ℕ) → map suc (range_with_len a n) ≡ range_with_len (a + 1) n
range_more a zero = refl
range_more a (suc n) = let k : suc a ≡ a + 1 = omega arith in ap₂ (λ x xs. x ∷ xs) k (range_more (a + 1) n)

among_range : (a n i : ℕ) → a ≤ i → i < a + n → is_among i (range_with_len a n) ≡ true
among_range a zero i h k = absurd (omega (arith, h, k))
among_range a (suc n) i h k = either_way (eqb i a)
    (λ e. or_left (eqb i a) (is_among i (range_with_len (a + 1) n)) e)
    (λ e. or_right (eqb i a) (is_among i (range_with_len (a + 1) n))
    (let ne : i ≡ a → ⊥ = eqb-false i a e in
    let l : a + 1 ≤ i = omega (arith, h, ne) in
    let m : i < (a + 1) + n = omega (arith, k) in among_range (a + 1) n i l m))

not_in_range : (a n i : ℕ) → a + n ≤ i → is_among i (range_with_len a n) ≡ false
not_in_range a zero i h = refl
not_in_range a (suc n) i h =
    let ne : eqb i a ≡ false = ne_eqb i a (λ e. omega (arith, h, e)) in
    let l : (a + 1) + n ≤ i = omega (arith, h) in
    ap₂ (λ x y. x || y) ne (not_in_range (a + 1) n i l)

-- ---- variables

-- the place of a variable in a longer list
place_front : (i : ℕ) (vs rest : List ℕ) → is_among i vs ≡ true → place_of i (vs ++ rest) ≡ place_of i vs
place_front i [] rest h = absurd (cc)
place_front i (v ∷ vs) rest h = either_way (eqb i v)
    (λ e. ap (λ b. cond b zero (suc (place_of i (vs ++ rest)))) e
    ∙ sym (ap (λ b. cond b zero (suc (place_of i vs))) e))
    (λ e. ap (λ b. cond b zero (suc (place_of i (vs ++ rest)))) e
    ∙ ap suc (place_front i vs rest
    (or_either (eqb i v) (is_among i vs) h (λ k. absurd (not_both (eqb i v) e k)) (λ k. k)))
    ∙ sym (ap (λ b. cond b zero (suc (place_of i vs))) e))

place_new : (i : ℕ) (vs rest : List ℕ) → is_among i vs ≡ false → place_of i (vs ++ i ∷ rest) ≡ length vs
place_new i [] rest h = ap (λ b. cond b zero (suc (place_of i rest))) (eq-eqb i i refl)
place_new i (v ∷ vs) rest h =
    let e : eqb i v ≡ false = Rattle.unification.proofs.Walking.or_false_left (eqb i v) (is_among i vs) h in
    let k : is_among i vs ≡ false = Rattle.unification.proofs.Walking.or_false_right (eqb i v) (is_among i vs) h in
    ap (λ b. cond b zero (suc (place_of i (vs ++ i ∷ rest)))) e ∙ ap suc (place_new i vs rest k)

-- what a tree has is found behind what was found before
record Found (vs us : List ℕ) : Type 0 where
  more : List ℕ
  is : us ≡ vs ++ more

found_by : (i : ℕ) (vs : List ℕ) (c : Bool) → Found vs (cond c vs (vs ++ i ∷ []))
found_by i vs true = record { more = []; is = sym (append-nil vs) }
found_by i vs false = record { more = i ∷ []; is = refl }

mutual
  found_more : (t : Tree) (vs : List ℕ) → Found vs (bound_in t vs)
  found_more (Tree.Bound i) vs = found_by i vs (is_among i vs)
  found_more (Tree.Free n) vs = record { more = []; is = sym (append-nil vs) }
  found_more (Tree.Made c ts) vs = found_all_more ts vs

  found_all_more : (ts : Trees) (vs : List ℕ) → Found vs (bound_in_all ts vs)
  found_all_more Trees.Nil vs = record { more = []; is = sym (append-nil vs) }
  found_all_more (Trees.Cons t ts) vs =
      let a : Found vs (bound_in t vs) = found_more t vs in
      let b : Found (bound_in t vs) (bound_in_all ts (bound_in t vs)) = found_all_more ts (bound_in t vs) in
      record {
        more = a.more ++ b.more;
        is = b.is ∙ ap (λ z. z ++ b.more) a.is ∙ append_assoc vs a.more b.more;
      }

abbrev pub by_place : List ℕ → ℕ → Tree
by_place all i = Tree.Bound (place_of i all)

length_snoc : (vs : List ℕ) (i : ℕ) → length (vs ++ i ∷ []) ≡ suc (length vs)
length_snoc [] i = refl
length_snoc (v ∷ vs) i = ap suc (length_snoc vs i)

place_among : (i : ℕ) (vs : List ℕ) → is_among i vs ≡ true → place_of i vs < length vs
place_among i vs h = Rattle.unification.proofs.Canonical.place_below i vs h

ordered_by : (i : ℕ) (vs rest all : List ℕ) (c : Bool) → is_among i vs ≡ c → all ≡ cond c vs (vs ++ i ∷ []) ++ rest
    → noticed false (place_of i all) (range_with_len 0 (length vs))
    ≡ range_with_len 0 (length (cond c vs (vs ++ i ∷ [])))
ordered_by i vs rest all true e h =
    let p : place_of i all ≡ place_of i vs = ap (place_of i) h ∙ place_front i vs rest e in
    let below : place_of i vs < length vs = place_among i vs e in
    let l : place_of i all < 0 + length vs = omega (arith, p, below) in
    ap (λ b. cond b (range_with_len 0 (length vs)) (range_with_len 0 (length vs) ++ place_of i all ∷ []))
    (among_range 0 (length vs) (place_of i all) (omega arith) l)
ordered_by i vs rest all false e h =
    let p : place_of i all ≡ length vs =
    ap (place_of i) (h ∙ append_assoc vs (i ∷ []) rest) ∙ place_new i vs rest e in
    let l : 0 + length vs ≤ place_of i all = omega (arith, p) in
    ap (λ b. cond b (range_with_len 0 (length vs)) (range_with_len 0 (length vs) ++ place_of i all ∷ []))
    (not_in_range 0 (length vs) (place_of i all) l)
    ∙ sym (range_snoc 0 (length vs) (place_of i all) (omega (arith, p)))
    ∙ ap (range_with_len 0) (sym (length_snoc vs i))

-- variables in place of which their places in the order of first occurrence stand are found in rising order
mutual
  pub found_in_order : (t : Tree) (vs rest all : List ℕ) → all ≡ bound_in t vs ++ rest
      → bound_in (plug (by_place all) t) (range_with_len 0 (length vs)) ≡ range_with_len 0 (length (bound_in t vs))
  found_in_order (Tree.Bound i) vs rest all h = ordered_by i vs rest all (is_among i vs) refl h
  found_in_order (Tree.Free n) vs rest all h = refl
  found_in_order (Tree.Made c ts) vs rest all h = all_found_in_order ts vs rest all h

  pub all_found_in_order : (ts : Trees) (vs rest all : List ℕ) → all ≡ bound_in_all ts vs ++ rest
      → bound_in_all (plug_all (by_place all) ts) (range_with_len 0 (length vs))
      ≡ range_with_len 0 (length (bound_in_all ts vs))
  all_found_in_order Trees.Nil vs rest all h = refl
  all_found_in_order (Trees.Cons t ts) vs rest all h =
      let b : Found (bound_in t vs) (bound_in_all ts (bound_in t vs)) = found_all_more ts (bound_in t vs) in
      let e : all ≡ bound_in t vs ++ (b.more ++ rest) =
      h ∙ ap (λ z. z ++ rest) b.is ∙ append_assoc (bound_in t vs) b.more rest in
      ap (bound_in_all (plug_all (by_place all) ts)) (found_in_order t vs (b.more ++ rest) all e)
      ∙ all_found_in_order ts (bound_in t vs) rest all h

-- ---- names

-- no name stands twice
abbrev AreOnce : List TyName → Type 0
AreOnce [] = Unit {0}
AreOnce (x ∷ xs) = (is_listed x xs ≡ false) × AreOnce xs

no_true : (b : Bool) → (b ≡ true → ⊥) → b ≡ false
no_true true h = absurd (h refl)
no_true false h = refl

once_kept : (p : TyName → Bool) (x : TyName) (xs : List TyName) (c : Bool) → is_listed x (filter p xs) ≡ false
    → AreOnce (filter p xs) → AreOnce (cond c (x ∷ filter p xs) (filter p xs))
once_kept p x xs true h k = (h, k)
once_kept p x xs false h k = k

filter_once : (p : TyName → Bool) (xs : List TyName) → AreOnce xs → AreOnce (filter p xs)
filter_once p [] h = tt
filter_once p (x ∷ xs) h = once_kept p x xs (p x)
    (no_true (is_listed x (filter p xs)) (λ e. not_both (is_listed x xs) h.0 (filter_listed p x xs e)))
    (filter_once p xs h.1)

not_itself : (x : TyName) → not (same_name x x) ≡ false
not_itself x = ap not (name_same x)

pub once_once : (xs : List TyName) → AreOnce (once xs)
once_once [] = tt
once_once (x ∷ xs) = (
  no_true (is_listed x (filter (λ m. not (same_name x m)) (once xs)))
      (λ e. not_both (not (same_name x x)) (not_itself x) (filter_passes (λ m. not (same_name x m)) x (once xs) e)),
  filter_once (λ m. not (same_name x m)) (once xs) (once_once xs),
)

later_place : (n x : TyName) (xs : List TyName) → is_listed x xs ≡ false → is_listed n xs ≡ true
    → place_in n (x ∷ xs) ≡ suc (place_in n xs)
later_place n x xs h k = either_way (same_name n x)
    (λ e. absurd (not_both (is_listed x xs) h (subst (λ z. is_listed z xs ≡ true) (name_is n x e) k)))
    (λ e. ap (λ b. cond b zero (suc (place_in n xs))) e)

map_agrees : {B : Type 0} (f g : TyName → B) (xs : List TyName) → Named (λ n. f n ≡ g n) xs → map f xs ≡ map g xs
map_agrees f g [] h = refl
map_agrees f g (x ∷ xs) h = ap₂ (λ y ys. y ∷ ys)
    (h x (or_left (same_name x x) (is_listed x xs) (name_same x)))
    (map_agrees f g xs (λ n e. h n (or_right (same_name n x) (is_listed n xs) e)))

map_suc : (f : TyName → ℕ) (xs : List TyName) → map (λ n. suc (f n)) xs ≡ map suc (map f xs)
map_suc f [] = refl
map_suc f (x ∷ xs) = ap (λ z. suc (f x) ∷ z) (map_suc f xs)

-- the places of names that stand once are 0, 1, ..
places_rise : (xs : List TyName) → AreOnce xs → map (λ n. place_in n xs) xs ≡ range_with_len 0 (length xs)
places_rise [] h = refl
places_rise (x ∷ xs) h = ap₂ (λ y ys. y ∷ ys)
    (ap (λ b. cond b zero (suc (place_in x xs))) (name_same x))
    (map_agrees (λ n. place_in n (x ∷ xs)) (λ n. suc (place_in n xs)) xs (λ n e. later_place n x xs h.0 e)
    ∙ map_suc (λ n. place_in n xs) xs ∙ ap (map suc) (places_rise xs h.1) ∙ range_more 0 (length xs))

shifted : (first n : ℕ) → (a : ℕ) → map (λ i. first + i) (range_with_len a n) ≡ range_with_len (first + a) n
shifted first zero a = refl
shifted first (suc n) a = ap (λ z. (first + a) ∷ z)
    (shifted first n (a + 1)
    ∙ ap (λ z. range_with_len z n) (let k : first + (a + 1) ≡ (first + a) + 1 = omega arith in k))

map_shift : (f : TyName → ℕ) (first : ℕ) (xs : List TyName)
    → map (λ n. first + f n) xs ≡ map (λ i. first + i) (map f xs)
map_shift f first [] = refl
map_shift f first (x ∷ xs) = ap (λ z. (first + f x) ∷ z) (map_shift f first xs)

-- .. so names that have their places for numbers, counted from a first one on, are numbered
pub places_number : (first : ℕ) (xs : List TyName) (number : TyName → ℕ)
    → Named (λ n. number n ≡ first + place_in n (once xs)) (once xs)
    → map number (once xs) ≡ range_with_len first (length (once xs))
places_number first xs number h =
    let ys : List TyName = once xs in
    let z : first + 0 ≡ first = omega arith in
    map_agrees number (λ n. first + place_in n ys) ys h
    ∙ map_shift (λ n. place_in n ys) first ys
    ∙ ap (map (λ i. first + i)) (places_rise ys (once_once xs))
    ∙ shifted first (length ys) 0
    ∙ ap (λ a. range_with_len a (length ys)) z
