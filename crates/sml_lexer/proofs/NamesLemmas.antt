-- Long identifiers, a part at a time.
use Rattle.std.proofs.Common.{◌≡◌, ℕ, zero, suc, ◌+◌, ◌-◌, ◌<◌, ◌≤◌, Bool, true, List, [], ◌∷◌, ◌++◌, length, take, drop, slice_index, ◌==◌, ◌&&◌, nat_lt, refl, sym, ap, ◌∙◌, arith, inl, inr, append_assoc}
use Rattle.std.proofs.lemmas.Bool.{and_parts, cases_Bool, lt-ltb}
use Rattle.std.proofs.lemmas.Bool.Decides.{nat_tests}
use Rattle.std.proofs.lemmas.List.{length-take-le}
use Rattle.std.specs.List.{sum_by}
use Rattle.std.proofs.lemmas.List.Sums.{sum_by-append}
use Rattle.sml_lexer.specs.Names.{qualifier_len, identifier_len, is_reserved, parts_after}
use Rattle.sml_lexer.specs.Classes.{first, is_letter}

-- what comes after so many bytes is what comes at the front of the rest
pub parts_after-drop : (passed : ℕ) (text : List ℕ) → parts_after passed text ≡ parts_after 0 (drop passed text)
parts_after-drop zero text = refl
parts_after-drop (suc passed) [] = refl
parts_after-drop (suc passed) (b ∷ bs) = parts_after-drop passed bs

-- a structure name with its dot, and the parts after it
pub parts-qualifier : (text : List ℕ) → 0 < qualifier_len text → qualifier_len text ≤ length text
    → parts_after 0 text ≡ take (qualifier_len text - 1) text ∷ parts_after 0 (drop (qualifier_len text) text)
parts-qualifier [] h within = absurd (omega arith)
parts-qualifier (b ∷ bs) h within =
    let n = qualifier_len (b ∷ bs) in
    let more : suc (n - 1) ≡ n = omega arith in
    rw (lt-ltb _ _ h) (ap (λ (rest : List (List ℕ)). take (n - 1) (b ∷ bs) ∷ rest) (parts_after-drop (n - 1) bs
    ∙ ap (λ (k : ℕ). parts_after 0 (drop k (b ∷ bs))) more))

pub no_identifier : identifier_len [] ≡ 0
no_identifier = elim (cases_Bool (is_reserved [])) [ inl e ↦ rw e refl | inr e ↦ rw e refl ]

-- the last part
pub parts-last : (text : List ℕ) → qualifier_len text ≡ 0 → 0 < identifier_len text
    → parts_after 0 text ≡ take (identifier_len text) text ∷ []
parts-last [] none h = absurd (omega (arith, no_identifier))
parts-last (b ∷ bs) none h = rw none refl

-- an identifier follows a structure name and its dot
pub identifier-after_qualifier : (text : List ℕ) → 0 < qualifier_len text → 0 < identifier_len (drop (qualifier_len text) text)
unfolding qualifier_len
identifier-after_qualifier text h =
    let n = identifier_len text in
    let joined : Bool = slice_index text n == 46 && nat_lt 0 (identifier_len (drop (n + 1) text)) in
    let dotted : Bool = nat_lt 0 n && joined in
    elim (cases_Bool (is_letter (first text) && dotted)) [
      | inl e ↦
          let follows : nat_lt 0 (identifier_len (drop (n + 1) text)) ≡ true =
          (and_parts (slice_index text n == 46) (nat_lt 0 (identifier_len (drop (n + 1) text)))
          (and_parts (nat_lt 0 n) joined (and_parts (is_letter (first text)) dotted e).1).1).1 in
          rw e (grind (arith, nat_tests))
      | inr e ↦ let none : qualifier_len text ≡ 0 = rw e refl in absurd (omega arith)
    ]

-- one part more before those of the rest
pub parts-step : (parts all : List (List ℕ)) (text : List ℕ) (n : ℕ) → parts ++ parts_after 0 text ≡ all
    → n ≡ qualifier_len text → 0 < n → n ≤ length text → (parts ++ take (n - 1) text ∷ []) ++ parts_after 0 (drop n text) ≡ all
parts-step parts all text n e same h within =
    let some : 0 < qualifier_len text = omega arith in
    let fits : qualifier_len text ≤ length text = omega arith in
    let next : parts_after 0 text ≡ take (n - 1) text ∷ parts_after 0 (drop n text) = rw same (parts-qualifier text some fits) in
    append_assoc parts (take (n - 1) text ∷ []) (parts_after 0 (drop n text))
    ∙ ap (λ (xs : List (List ℕ)). parts ++ xs) (sym next) ∙ e

-- the bytes of a part more and its dot
pub taken-step : (parts : List (List ℕ)) (text : List ℕ) (n : ℕ) → 0 < n → n ≤ length text
    → sum_by (λ p. length p + 1) (parts ++ take (n - 1) text ∷ []) ≡ sum_by (λ p. length p + 1) parts + n
taken-step parts text n h within =
    sum_by-append (λ p. length p + 1) parts (take (n - 1) text ∷ []) ∙ omega (arith, length-take-le (n - 1) text (omega arith))

pub identifier-step : (text : List ℕ) (n : ℕ) → n ≡ qualifier_len text → 0 < n → 0 < identifier_len (drop n text)
identifier-step text n same h = let some : 0 < qualifier_len text = omega arith in rw same (identifier-after_qualifier text some)
