-- How the counts of bindings go with the bindings.
use Rattle.std.proofs.Common.{◌≡◌, ◌∙◌, sym, ap, refl, ℕ, zero, suc, ◌+◌, ◌-◌, ◌<◌, ◌≤◌, Bool, true, false, not, ◌||◌, cond, arith}
use Rattle.std.proofs.Common.{List, [], ◌∷◌, ◌++◌, Option, Some, None, take, drop, length, set, get_or, take-append-drop, length-drop, add-zero, ne_eqb}
use Rattle.std.specs.Prelude.{nat_eq}
use Rattle.std.specs.Cmp.Lexicographic.{same_text}
use Rattle.cm_base.specs.declared.record.Namespace.{Namespace}
use Rattle.cm_base.specs.declared.record.Namespace.TheVariants as space
use Rattle.cm_base.specs.declared.record.ModName.{ModName}
use Rattle.skeletons.specs.Scopes.{same_name, binds_it, is_bound, hidden}
use Rattle.skeletons.specs.Counting.{bindings, hide_at}

-- nothing more
zero_add : (n : ℕ) → 0 + n ≡ n
zero_add n = omega arith

-- bindings of two lists
pub bindings-append : (xs ys : List (Option ModName)) (name : ModName)
    → bindings (xs ++ ys) name ≡ bindings xs name + bindings ys name
bindings-append [] ys name = omega arith
bindings-append (x ∷ xs) ys name = let more = bindings-append xs ys name in omega arith

-- one binding, if it is one, and others
bound_step : (b : Bool) (n : ℕ) (found : Bool) → not (nat_eq n 0) ≡ found → not (nat_eq (cond b 1 0 + n) 0) ≡ (b || found)
bound_step true n found h = ap not (ne_eqb (1 + n) 0 (λ is. absurd (omega (arith, is))))
bound_step false n found h = ap (λ k. not (nat_eq k 0)) (zero_add n) ∙ h

-- a name is bound where its bindings aren't none
pub bound-by_count : (xs : List (Option ModName)) (name : ModName)
    → not (nat_eq (bindings xs name) 0) ≡ is_bound xs name
bound-by_count [] name = refl
bound-by_count (x ∷ xs) name =
    bound_step (binds_it name x) (bindings xs name) (is_bound xs name) (bound-by_count xs name)

-- two names that are alike are one
pub same_names : (a b : ModName) → same_name a b ≡ true → a ≡ b
same_names a b h = alike a.space b.space a.name b.name h
  where
    alike : (s t : Namespace) (x y : List ℕ)
        → same_name (record { space = s; name = x }) (record { space = t; name = y }) ≡ true
        → ◌≡◌ {A = ModName} (record { space = s; name = x }) (record { space = t; name = y })
    alike space.Structure space.Structure x y h = ap (λ text. record { space = space.Structure; name = text }) (same_text x y (sym h))
    alike space.Signature space.Signature x y h = ap (λ text. record { space = space.Signature; name = text }) (same_text x y (sym h))
    alike space.Functor space.Functor x y h = ap (λ text. record { space = space.Functor; name = text }) (same_text x y (sym h))
    alike space.Funsig space.Funsig x y h = ap (λ text. record { space = space.Funsig; name = text }) (same_text x y (sym h))
    alike space.Structure space.Signature x y h = cc
    alike space.Structure space.Functor x y h = cc
    alike space.Structure space.Funsig x y h = cc
    alike space.Signature space.Structure x y h = cc
    alike space.Signature space.Functor x y h = cc
    alike space.Signature space.Funsig x y h = cc
    alike space.Functor space.Structure x y h = cc
    alike space.Functor space.Signature x y h = cc
    alike space.Functor space.Funsig x y h = cc
    alike space.Funsig space.Structure x y h = cc
    alike space.Funsig space.Signature x y h = cc
    alike space.Funsig space.Functor x y h = cc

-- the count of a name after one more binding
count_step : (b : Bool) (n m k : ℕ) → (b ≡ true → n ≡ m + 1) → (b ≡ false → k ≡ m) → cond b n k ≡ m + (cond b 1 0 + 0)
count_step true n m k alike other = alike refl
count_step false n m k alike other = other refl ∙ sym (add-zero m)

-- after one more binding its name is counted once more
pub counted_more : (old new : ModName → ℕ) (before after : List (Option ModName)) (name copy : ModName) (count : ℕ)
    → ((n : ModName) → old n ≡ bindings before n)
    → ((n : ModName) → new n ≡ cond (same_name name n) count (old n))
    → count ≡ old name + 1 → copy ≡ name → after ≡ before ++ Some copy ∷ []
    → (n : ModName) → new n ≡ bindings after n
counted_more old new before after name copy count counted put is same added n =
    put n
    ∙ count_step (same_name name n) count (bindings before n) (old n)
    (λ alike. is ∙ ap (λ k. k + 1) (ap old (same_names name n alike) ∙ counted n)) (λ other. counted n)
    ∙ sym (ap (λ xs. bindings xs n) (added ∙ ap (λ m. before ++ Some m ∷ []) same) ∙ bindings-append before (Some name ∷ []) n)

-- after the last bindings are gone the first ones are counted
pub counted_front : (old new : ModName → ℕ) (names : List (Option ModName)) (kept : ℕ)
    → ((n : ModName) → old n ≡ bindings names n)
    → ((n : ModName) → new n ≡ old n - bindings (drop kept names) n)
    → (n : ModName) → new n ≡ bindings (take kept names) n
counted_front old new names kept counted less n =
    let is = counted n in
    let left = less n in
    let split : bindings names n ≡ bindings (take kept names) n + bindings (drop kept names) n =
    ap (λ xs. bindings xs n) (sym (take-append-drop kept names)) ∙ bindings-append (take kept names) (drop kept names) n in
    omega arith

-- all of a list
take_whole : {A : Type 0} (xs : List A) → take (length xs) xs ≡ xs
take_whole [] = refl
take_whole (x ∷ xs) = ap (λ l. x ∷ l) (take_whole xs)

-- no more than there is
pub take_past : {A : Type 0} (n : ℕ) (xs : List A) → length xs ≤ n → take n xs ≡ xs
take_past zero [] h = refl
take_past (suc n) [] h = refl
take_past zero (x ∷ xs) h = absurd (omega arith)
take_past (suc n) (x ∷ xs) h = ap (λ l. x ∷ l) (take_past n xs (omega arith))

-- all of the rest
pub rest_taken : {A : Type 0} (kept : ℕ) (xs : List A) → take (length xs - kept) (drop kept xs) ≡ drop kept xs
rest_taken kept xs = ap (λ n. take n (drop kept xs)) (sym (length-drop kept xs)) ∙ take_whole (drop kept xs)

-- the first part of two
pub take_front : {A : Type 0} (xs ys : List A) → take (length xs) (xs ++ ys) ≡ xs
take_front [] ys = refl
take_front (x ∷ xs) ys = ap (λ l. x ∷ l) (take_front xs ys)

-- one binding hidden
pub bindings-set : (names : List (Option ModName)) (at : ℕ) (d : Option ModName) (name : ModName) → at < length names
    → bindings names name ≡ cond (binds_it name (get_or names at d)) 1 0 + bindings (set names at None) name
bindings-set [] at d name h = absurd (omega arith)
bindings-set (x ∷ xs) zero d name h =
    ap (λ k. cond (binds_it name x) 1 0 + k) (sym (zero_add (bindings xs name)))
bindings-set (x ∷ xs) (suc at) d name h = let more = bindings-set xs at d name (omega arith) in omega arith

-- after one binding is hidden the others are counted
pub counted_hidden : (old new : ModName → ℕ) (names : List (Option ModName)) (at : ℕ) (gone : Option ModName)
    → at < length names → get_or names at gone ≡ gone
    → ((n : ModName) → old n ≡ bindings names n)
    → ((n : ModName) → new n ≡ cond (binds_it n gone) (old n - 1) (old n))
    → (n : ModName) → new n ≡ bindings (set names at None) n
counted_hidden old new names at gone within is counted drops n =
    less (binds_it n gone) (old n) (new n) (bindings (set names at None) n)
    (counted n ∙ bindings-set names at gone n within ∙ ap (λ g. cond (binds_it n g) 1 0 + bindings (set names at None) n) is)
    (drops n)
  where
    less : (b : Bool) (old new rest : ℕ) → old ≡ cond b 1 0 + rest → new ≡ cond b (old - 1) old → new ≡ rest
    less true old new rest is drops = omega arith
    less false old new rest is drops = omega arith

-- nothing is hidden
pub hide_none : (kept : ℕ) (names : List (Option ModName)) → hide_at kept 0 names ≡ names
hide_none kept [] = refl
hide_none zero (name ∷ names) = refl
hide_none (suc kept) (name ∷ names) = ap (λ l. name ∷ l) (hide_none kept names)

-- one more is hidden
pub hide_more : (kept count : ℕ) (names : List (Option ModName)) → kept + count < length names
    → set (hide_at kept count names) (kept + count) None ≡ hide_at kept (suc count) names
hide_more kept count [] h = absurd (omega arith)
hide_more zero zero (name ∷ names) h = ap (λ l. None ∷ l) (sym (hide_none zero names))
hide_more zero (suc count) (name ∷ names) h =
    let place : 0 + suc count ≡ suc (0 + count) = omega arith in
    ap (λ i. set (None ∷ hide_at 0 count names) i None) place
    ∙ ap (λ l. None ∷ l) (hide_more zero count names (omega arith))
hide_more (suc kept) count (name ∷ names) h =
    let place : suc kept + count ≡ suc (kept + count) = omega arith in
    ap (λ i. set (name ∷ hide_at kept count names) i None) place
    ∙ ap (λ l. name ∷ l) (hide_more kept count names (omega arith))

-- what is hidden stays in the list
pub length-hide : (kept count : ℕ) (names : List (Option ModName)) → length (hide_at kept count names) ≡ length names
length-hide kept count [] = refl
length-hide zero zero (name ∷ names) = refl
length-hide zero (suc count) (name ∷ names) = ap suc (length-hide zero count names)
length-hide (suc kept) count (name ∷ names) = ap suc (length-hide kept count names)

-- the middle of three lists is hidden
pub hide_middle : (first middle last : List (Option ModName))
    → hide_at (length first) (length middle) (first ++ (middle ++ last)) ≡ first ++ (hidden middle ++ last)
hide_middle [] [] [] = refl
hide_middle [] [] (x ∷ last) = refl
hide_middle [] (x ∷ middle) last = ap (λ l. None ∷ l) (hide_middle [] middle last)
hide_middle (x ∷ first) middle last = ap (λ l. x ∷ l) (hide_middle first middle last)
