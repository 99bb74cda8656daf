use Rattle.sml_lexer.proofs.NumbersLemmas.{decimal_digits}
use Rattle.sml_lexer.proofs.number.decimal.Goals as goal

pub integer-requires-clause-digits : goal.integer-requires-clause-digits
integer-requires-clause-digits c = rw c.digit_run-len.ensures.run (decimal_digits c.args.text.now)
