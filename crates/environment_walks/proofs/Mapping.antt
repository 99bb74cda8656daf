-- Rows with images in place of places.
use Rattle.std.proofs.Common.{◌≡◌, ℕ, zero, suc, ◌+◌, ◌≤◌, List, [], ◌∷◌, ◌++◌, length, map, take, drop, refl, sym, ap, ap₂, ◌∙◌, subst, Option, Some, Bool, true, arith, slice_get}
use Rattle.std.proofs.lemmas.List.{map-append, length-map}
use Rattle.semantic_objects.specs.Symbols.{AreRising}
use Rattle.semantic_objects.specs.Tables.{Table, with_entry, names_of}
use Rattle.environment_walks.specs.declared.places.Images.{Images}
use Rattle.environment_walks.specs.Changing.{image_in, asked, answered, AreMapped, AllStay}
use Rattle.environment_walks.proofs.Ordering.{IsAfter, rising_after, set_last, taken_more, taken_all, names_taken, row_at}

cons_head : {A : Type 0} (x y : A) (xs ys : List A) → x ∷ xs ≡ y ∷ ys → x ≡ y
cons_head x y xs ys h = cc

cons_tail : {A : Type 0} (x y : A) (xs ys : List A) → x ∷ xs ≡ y ∷ ys → xs ≡ ys
cons_tail x y xs ys h = cc

pub mapped_name : (images : Images) (r s : List ℕ × ℕ) (rs ss : Table ℕ) → AreMapped images (r ∷ rs) (s ∷ ss)
    → r.0 ≡ s.0
mapped_name images r s rs ss h = ap (λ (z : List ℕ × Option ℕ). z.0)
    (cons_head (asked images r) (answered s) (map (asked images) rs) (map answered ss) h)

pub mapped_image : (images : Images) (r s : List ℕ × ℕ) (rs ss : Table ℕ) → AreMapped images (r ∷ rs) (s ∷ ss)
    → image_in images r.1 ≡ Some s.1
mapped_image images r s rs ss h = ap (λ (z : List ℕ × Option ℕ). z.1)
    (cons_head (asked images r) (answered s) (map (asked images) rs) (map answered ss) h)

pub mapped_rest : (images : Images) (r s : List ℕ × ℕ) (rs ss : Table ℕ) → AreMapped images (r ∷ rs) (s ∷ ss)
    → AreMapped images rs ss
mapped_rest images r s rs ss h =
    cons_tail (asked images r) (answered s) (map (asked images) rs) (map answered ss) h

-- the names stay
pub mapped_names : (images : Images) (rows made : Table ℕ) → AreMapped images rows made → names_of made ≡ names_of rows
mapped_names images [] [] h = refl
mapped_names images [] (m ∷ ms) h = absurd (cc)
mapped_names images (r ∷ rs) [] h = absurd (cc)
mapped_names images (r ∷ rs) (m ∷ ms) h =
    ap₂ (λ n ns. n ∷ ns) (sym (mapped_name images r m rs ms h))
    (mapped_names images rs ms (mapped_rest images r m rs ms h))

mapped_snoc : (images : Images) (rows made : Table ℕ) (n : List ℕ) (p q : ℕ) → AreMapped images rows made
    → image_in images p ≡ Some q → AreMapped images (rows ++ (n, p) ∷ []) (made ++ (n, q) ∷ [])
mapped_snoc images rows made n p q h e =
    map-append (asked images) rows ((n, p) ∷ [])
    ∙ ap₂ (λ xs o. xs ++ (n, o) ∷ []) h e
    ∙ sym (map-append answered made ((n, q) ∷ []))

pub mapped_next : (images : Images) (rows made new : Table ℕ) (names : List (List ℕ)) (places : List ℕ)
    (n m : List ℕ) (q i j : ℕ) → names ≡ names_of rows → AreRising names → places ≡ map (λ row. row.1) rows
    → AreMapped images (take i rows) made → slice_get names i ≡ Some n
    → ((p : ℕ) → slice_get places i ≡ Some p → image_in images p ≡ Some q) → m ≡ n
    → new ≡ with_entry m q made → j ≡ i + 1 → AreMapped images (take j rows) new
mapped_next images rows made new names places n m q i j e rising f h at image same is next =
    row_at rows i n (ap (λ z. slice_get z i) (sym e) ∙ at) (λ p place row.
    let after : IsAfter n (names_of made) =
    subst (IsAfter n) (ap (take i) e ∙ sym (names_taken i rows) ∙ sym (mapped_names images (take i rows) made h))
    (rising_after names n i rising at) in
    let set : new ≡ made ++ (n, q) ∷ [] =
    is ∙ ap (λ z. with_entry z q made) same ∙ set_last n q made after in
    subst (λ z. AreMapped images (take j rows) z) (sym set)
    (subst (λ z. AreMapped images z (made ++ (n, q) ∷ [])) (sym (ap (λ z. take z rows) next ∙ taken_more rows i (n, p) row))
    (mapped_snoc images (take i rows) made n p q h (image p (ap (λ z. slice_get z i) f ∙ place)))))

pub mapped_end : (images : Images) (rows made : Table ℕ) (names : List (List ℕ)) (n : ℕ) → names ≡ names_of rows
    → n ≡ length names → AreMapped images (take n rows) made → AreMapped images rows made
mapped_end images rows made names n e k h =
    let l : length rows ≡ n = sym (length-map rows (λ row. row.0)) ∙ sym (ap length e) ∙ sym k in
    subst (λ z. AreMapped images z made) (taken_all rows n l) h

pub mapped_none : (images : Images) (rows made : Table ℕ) → made ≡ [] → AreMapped images (take 0 rows) made
mapped_none images [] made e = sym (ap (map answered) e)
mapped_none images (row ∷ rows) made e = sym (ap (map answered) e)

-- ---- rows that stay

pub stay_next : (images : Images) (all rest more : List ℕ) (p : ℕ) → rest ≡ p ∷ more → image_in images p ≡ Some p
    → (AllStay images rest → AllStay images all) → AllStay images more → AllStay images all
stay_next images all rest more p e h f k = f (subst (AllStay images) (sym e) (h, k))

nothing_left : (images : Images) (n : ℕ) (xs : List ℕ) → length xs ≤ n → AllStay images (drop n xs)
nothing_left images zero [] h = tt
nothing_left images zero (x ∷ xs) h = absurd (omega (arith, h))
nothing_left images (suc n) [] h = tt
nothing_left images (suc n) (x ∷ xs) h = nothing_left images n xs (omega (arith, h))

pub stay_end : (images : Images) (xs items : List ℕ) (n : ℕ) → items ≡ xs → length items ≤ n
    → (AllStay images (drop n xs) → AllStay images xs) → AllStay images xs
stay_end images xs items n e h f =
    f (nothing_left images n xs (subst (λ (z : List ℕ). length z ≤ n) e h))

rows_stay : (images : Images) (rows : Table ℕ) → AllStay images (map (λ row. row.1) rows) → AreMapped images rows rows
rows_stay images [] h = refl
rows_stay images (row ∷ rows) h = ap₂ (λ o xs. (row.0, o) ∷ xs) h.0 (rows_stay images rows h.1)

pub rows_kept : (images : Images) (rows : Table ℕ) (places : List ℕ) (b : Bool) → places ≡ map (λ row. row.1) rows
    → (b ≡ true → AllStay images places) → b ≡ true → AreMapped images rows rows
rows_kept images rows places b e h k = rows_stay images rows (subst (AllStay images) e (h k))
