use Rattle.sml_lexer.proofs.NumbersLemmas.{hex_digits}
use Rattle.sml_lexer.proofs.number.hex.Goals as goal

pub integer-requires-clause-digits : goal.integer-requires-clause-digits
integer-requires-clause-digits c = rw c.hex_run-len.ensures.run (hex_digits c.args.digits.now)
