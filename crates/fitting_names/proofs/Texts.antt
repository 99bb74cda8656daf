-- Texts that fit: those of lexemes, and those that derived forms make up.
use Rattle.std.proofs.Common.{◌≡◌, ℕ, ◌+◌, ◌<◌, ◌≤◌, ◌^◌, ◌%◌, true, ◌&&◌, nat_le, List, [], ◌∷◌, ◌++◌, length, All, refl, arith}
use Rattle.std.specs.List.{list_all}
use Rattle.std.specs.Fmt.{decimal}
use Rattle.std.proofs.lemmas.Bool.{and_parts}
use Rattle.std.proofs.lemmas.Bool.Decides.{nat_tests}
use Rattle.std.proofs.lemmas.Fmt.{decimal_by_steps, decimal_nonempty, length-decimal-le}
use Rattle.std.proofs.lemmas.List.Elements.{All-head, All-tail}
use Rattle.bare_forms.specs.Nodes.{arg_text}
use Rattle.body_laws.proofs.Signatures.{both-true}
use Rattle.lexeme_laws.specs.Limits.{is_printed, IsNameText}
use Rattle.fitting_names.specs.Names.{text_fits}

abbrev pub FitText : List ℕ → Type 0
FitText text = text_fits text ≡ true

-- few enough that each has a number
abbrev pub IsFew : {A : Type 0} → List A → Type 0
IsFew xs = length xs < 2 ^ 63

printed : (b : ℕ) → 33 ≤ b → b ≤ 126 → is_printed b ≡ true
printed b low high = both-true (nat_le 33 b) (nat_le b 126) (grind (arith, nat_tests)) (grind (arith, nat_tests))

appended : (xs ys : List ℕ) → list_all is_printed xs ≡ true → list_all is_printed ys ≡ true
    → list_all is_printed (xs ++ ys) ≡ true
appended [] ys first second = second
appended (x ∷ xs) ys first second =
    let parts = and_parts (is_printed x) (list_all is_printed xs) first in
    both-true (is_printed x) (list_all is_printed (xs ++ ys)) parts.0 (appended xs ys parts.1 second)

digit_printed : (n : ℕ) → n < 10 → list_all is_printed ((48 + n) ∷ []) ≡ true
digit_printed n low = both-true (is_printed (48 + n)) true (printed (48 + n) (omega arith) (omega arith)) refl

digits_printed : (n : ℕ) → n < 2 ^ 64 → list_all is_printed (decimal n) ≡ true
digits_printed = decimal_by_steps (λ m ds. list_all is_printed ds ≡ true) (λ m low. digit_printed m low)
    (λ m ds large are. appended ds ((48 + m % 10) ∷ []) are (digit_printed (m % 10) (omega arith)))

text_by : (text : List ℕ) → 1 ≤ length text → length text ≤ 255 → list_all is_printed text ≡ true → FitText text
text_by text some few are =
    both-true (nat_le 1 (length text)) (nat_le (length text) 255 && list_all is_printed text) (grind (arith, nat_tests))
    (both-true (nat_le (length text) 255) (list_all is_printed text) (grind (arith, nat_tests)) are)

-- a number's digits
pub decimal_fits : (n : ℕ) → n < 2 ^ 64 → FitText (decimal n)
decimal_fits n low =
    let some = decimal_nonempty n low in
    let few : length (decimal n) ≤ 20 = length-decimal-le 20 n (omega arith) (omega arith) low in
    text_by (decimal n) (omega (arith, some)) (omega (arith, few)) (digits_printed n low)

-- the name of an argument
pub arg_fits : (n : ℕ) → n < 2 ^ 64 → FitText (arg_text n)
arg_fits n low =
    let few : length (decimal n) ≤ 20 = length-decimal-le 20 n (omega arith) (omega arith) low in
    text_by (arg_text n) (omega arith) (omega (arith, few))
    (both-true (is_printed 37) (list_all is_printed (decimal n)) refl (digits_printed n low))

-- a name of a source
pub name_text_fits : (text : List ℕ) → IsNameText text → FitText text
name_text_fits text is = text_by text is.some is.few is.printed

pub parts_fit : (parts : List (List ℕ)) → All IsNameText parts → list_all text_fits parts ≡ true
parts_fit [] all = refl
parts_fit (part ∷ parts) all =
    both-true (text_fits part) (list_all text_fits parts)
    (name_text_fits part (All-head IsNameText part parts all)) (parts_fit parts (All-tail IsNameText part parts all))
