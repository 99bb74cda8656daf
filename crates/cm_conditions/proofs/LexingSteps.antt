-- How a condition's text is cut into lexemes, a step at a time.
use Rattle.std.proofs.Common.{◌≡◌, ℕ, zero, suc, ◌+◌, ◌*◌, ◌-◌, ◌^◌, ◌<◌, ◌≤◌, List, [], ◌∷◌, ◌++◌, Some, true, false, refl, ap, ap₂, sym, ◌∙◌, drop, length, length-drop, arith, if◌then◌else◌, append_assoc, append-nil, get_or, nat_lt, subst, to_z, w64, pos}
use Rattle.std.proofs.lemmas.Bool.{lt-ltb, le-ltb}
use Rattle.std.proofs.lemmas.Int.{to_z_pos}
use Rattle.cm_conditions.specs.Lexemes.{is_space, number_from, number_lexeme, next_of, two_bytes, more_of, lexeme_at, lexemes_within, lexemes_of}
use Rattle.cm_conditions.specs.declared.lexeme.Mark.{Mark}
use Rattle.cm_conditions.specs.declared.lexeme.Lexeme.{Lexeme}
use Rattle.cm_conditions.specs.declared.lexeme.Lexeme.TheVariants as x

-- more digits make no smaller number
pub number_grows : (n : ℕ) (digits : List ℕ) → n ≤ number_from n digits
number_grows n [] = omega arith
number_grows n (digit ∷ digits) = let h = number_grows (10 * n + (digit - 48)) digits in omega (arith, h)

-- what one more digit makes is no greater than what all do
pub number_at : (n i : ℕ) (digits : List ℕ) → i < length digits
    → 10 * n + (get_or digits i 0 - 48) ≤ number_from n (drop i digits)
number_at n i [] h = absurd (omega arith)
number_at n zero (digit ∷ digits) h = number_grows (10 * n + (digit - 48)) digits
number_at n (suc i) (digit ∷ digits) h = number_at n i digits (omega arith)

pub number_small : (n m : ℕ) → n ≡ m → n < 2 ^ 63 → x.Number (to_z w64 n) ≡ number_lexeme m
unfolding number_lexeme
number_small n m is h =
    let fits : nat_lt m (2 ^ 63) ≡ true = lt-ltb m (2 ^ 63) (subst (λ k. k < 2 ^ 63) is h) in
    ap x.Number (to_z_pos w64 n h ∙ ap pos is) ∙ rw fits refl

pub number_large : (m : ℕ) → 2 ^ 63 ≤ m → x.Wrong ≡ number_lexeme m
unfolding number_lexeme
number_large m h = let large : nat_lt m (2 ^ 63) ≡ false = le-ltb m (2 ^ 63) h in rw large refl

pub ruleset numbers = (number_at)

-- a mark of two bytes has a second byte
pub some_next : (byte : ℕ) (bytes : List ℕ) (mark : Mark) → two_bytes byte (next_of bytes) ≡ Some mark → 1 ≤ length bytes
some_next byte [] mark h = absurd (grind arith)
some_next byte (b ∷ bytes) mark h = omega arith

-- more steps than bytes change nothing
enough : (n m : ℕ) (text : List ℕ) → length text ≤ n → length text ≤ m → lexemes_within n text ≡ lexemes_within m text
enough zero zero text h k = refl
enough zero (suc m) [] h k = refl
enough (suc n) zero [] h k = refl
enough (suc n) (suc m) [] h k = refl
enough zero (suc m) (byte ∷ bytes) h k = absurd (omega arith)
enough (suc n) zero (byte ∷ bytes) h k = absurd (omega arith)
enough (suc n) (suc m) (byte ∷ bytes) h k =
    let len = length-drop (more_of byte bytes) bytes in
    ap₂ (λ (p q : List Lexeme). if is_space byte then p else lexeme_at byte bytes ∷ q)
    (enough n m bytes (omega arith) (omega arith))
    (enough n m (drop (more_of byte bytes) bytes) (omega (arith, len)) (omega (arith, len)))

pub lexemes_none : (text : List ℕ) → length text ≡ 0 → lexemes_of text ≡ []
unfolding lexemes_of
lexemes_none [] h = refl
lexemes_none (byte ∷ bytes) h = absurd (omega arith)

pub lexemes_space : (byte : ℕ) (bytes : List ℕ) → is_space byte ≡ true → lexemes_of (byte ∷ bytes) ≡ lexemes_of bytes
unfolding lexemes_of
lexemes_space byte bytes h = rw h refl

pub lexemes_some : (byte : ℕ) (bytes : List ℕ) → is_space byte ≡ false
    → lexemes_of (byte ∷ bytes) ≡ lexeme_at byte bytes ∷ lexemes_of (drop (more_of byte bytes) bytes)
unfolding lexemes_of
lexemes_some byte bytes h =
    let rest = drop (more_of byte bytes) bytes in
    rw h (ap (λ (xs : List Lexeme). lexeme_at byte bytes ∷ xs)
    (enough (length bytes) (length rest) rest (omega (arith, length-drop (more_of byte bytes) bytes)) (omega arith)))

-- lexemes found, and one more
pub one_more : (found rest all : List Lexeme) (lexeme : Lexeme) → found ++ (lexeme ∷ rest) ≡ all
    → (found ++ lexeme ∷ []) ++ rest ≡ all
one_more found rest all lexeme h = append_assoc found (lexeme ∷ []) rest ∙ h

pub ruleset lexeme_steps = (lexemes_none, lexemes_space, lexemes_some, one_more)

-- at the end all are found
pub all_found : (found all : List Lexeme) (rest : List ℕ) → length rest ≡ 0 → found ++ lexemes_of rest ≡ all → found ≡ all
all_found found all rest none h =
    sym (append-nil found) ∙ ap (λ (xs : List Lexeme). found ++ xs) (sym (lexemes_none rest none)) ∙ h
