-- How bindings are read, a step at a time.
use Rattle.std.proofs.Common.{◌≡◌, ℕ, ◌∷◌, [], List, Option, Some, None, is_some, refl, ap, ◌∙◌, drop}
use Rattle.grammars.specs.Grammar.{End, head_or}
use Rattle.grammars.specs.Reading.{Out, read}
use Rattle.grammars.proofs.Complete.{goes, stops}
use Rattle.sml_lexer.specs.declared.lexeme.Lexeme.{Lexeme}
use Rattle.core_bindings.specs.Bindings.{digit_of, next_digit, digit}

pub digit_go : (strength : ℕ) (xs : List Lexeme) → next_digit (head_or xs None) ≡ Some strength
    → read digit xs ≡ Out.out (End.whole (Some strength)) (drop 1 xs)
unfolding digit
digit_go strength [] h = absurd (cc)
digit_go strength (x ∷ xs) h =
    goes (is_some (digit_of x)) _ _ (ap is_some h)
    ∙ ap (λ (found : Option ℕ). Out.out (End.whole found) xs) h

pub digit_stop : (xs : List Lexeme) → next_digit (head_or xs None) ≡ None → read digit xs ≡ Out.out (End.whole None) xs
unfolding digit
digit_stop [] h = refl
digit_stop (x ∷ xs) h = stops (is_some (digit_of x)) _ _ (ap is_some h)

pub ruleset digit_steps = (digit_go, digit_stop)
