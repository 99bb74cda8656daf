use Rattle.std.proofs.Common.{◌≡◌, ◌∙◌, ap, sym, true, refl, Bool, ℕ, List}
use Rattle.cm_conditions.specs.Lexemes.{number_from}
use Rattle.command_words.specs.Words.{are_digits, digits_value, signed}
use Rattle.command_words.proofs.definitions.digits_value.Goals as goal

of_digits : (negative : Bool) (digits : List ℕ) → are_digits digits ≡ true
    → digits_value negative digits ≡ signed negative (number_from 0 digits)
of_digits negative digits are = rw are refl

pub returns-in-Some : goal.returns-in-Some
returns-in-Some c =
    c.signed.ensures ∙ ap (signed c.args.negative) c.in-Some.ensures
    ∙ sym (of_digits c.args.negative c.args.digits.now (sym c.are_digits.ensures ∙ c.if-not-are_digits.false))
