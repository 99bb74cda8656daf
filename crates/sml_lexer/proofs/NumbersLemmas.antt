-- Digits and their value.
use Rattle.std.proofs.Common.{◌≡◌, ℕ, ◌+◌, ◌*◌, ◌≤◌, ◌==◌, true, List, [], ◌∷◌, length, get_or, take, refl, arith, le_refl, le_trans, mul-le-mul_left}
use Rattle.std.proofs.lemmas.Bool.{and_parts}
use Rattle.std.proofs.lemmas.Bool.Decides.{nat_tests}
use Rattle.std.specs.List.{prefix_len, list_all}
use Rattle.std.specs.Char.{digit_value, is_digit, is_ascii_digit, is_ascii_hexdigit}
use Rattle.std.specs.Str.Parse.{digits_value_after}
use Rattle.sml_lexer.specs.Numbers.{begins_hex}
use Rattle.sml_lexer.specs.declared.front.Front.{Front}
use Rattle.sml_lexer.specs.declared.front.Front.TheVariants.{Gap, Lexeme, Refused}
use Rattle.sml_lexer.specs.Fronts.{Takes, TakesWithin}
use Rattle.sml_lexer.proofs.BytesLemmas.{all_in_run, run_begins, within_class}

decimal_digit : (c : ℕ) → is_ascii_digit c ≡ true → is_digit c 10 ≡ true
decimal_digit c h = grind (arith, nat_tests)

hex_digit : (c : ℕ) → is_ascii_hexdigit c ≡ true → is_digit c 16 ≡ true
hex_digit c h = grind (arith, nat_tests)

pub decimal_digits : (xs : List ℕ) → list_all (λ c. is_digit c 10) (take (prefix_len is_ascii_digit xs) xs) ≡ true
decimal_digits xs = all_in_run is_ascii_digit (λ c. is_digit c 10) xs decimal_digit

pub hex_digits : (xs : List ℕ) → list_all (λ c. is_digit c 16) (take (prefix_len is_ascii_hexdigit xs) xs) ≡ true
hex_digits xs = all_in_run is_ascii_hexdigit (λ c. is_digit c 16) xs hex_digit

-- more digits only make the value larger
pub le-digits_value_after : (radix n : ℕ) (ds : List ℕ) → 1 ≤ radix → n ≤ digits_value_after radix n ds
le-digits_value_after radix n [] h = le_refl n
le-digits_value_after radix n (d ∷ ds) h =
    let step : n ≤ n * radix + digit_value d = omega (arith, mul-le-mul_left n h) in
    le_trans step (le-digits_value_after radix (n * radix + digit_value d) ds h)

-- a hexadecimal constant has the two bytes of its prefix
pub hex_has_prefix : (xs : List ℕ) → begins_hex xs ≡ true → 2 ≤ length xs
unfolding begins_hex
hex_has_prefix xs h =
    let digit : is_ascii_hexdigit (get_or xs 2 0) ≡ true = (and_parts (get_or xs 1 0 == 120) (is_ascii_hexdigit (get_or xs 2 0)) (and_parts (get_or xs 0 0 == 48) _ h).1).1 in
    omega (arith, within_class is_ascii_hexdigit xs 2 refl digit)

pub within-takes : (f : Front) (n all : ℕ) → Takes f n → 1 ≤ n → n ≤ all → TakesWithin f all
within-takes (Gap len) n all e some h = (omega arith, omega arith)
within-takes (Lexeme kind len) n all e some h = (omega arith, omega arith)
within-takes (Refused number) n all e some h = tt

pub decimal_begins : (text : List ℕ) → is_ascii_digit (get_or text 0 0) ≡ true → 1 ≤ prefix_len is_ascii_digit text
decimal_begins text h = run_begins is_ascii_digit text refl h

pub ruleset within = (within-takes, decimal_begins)
