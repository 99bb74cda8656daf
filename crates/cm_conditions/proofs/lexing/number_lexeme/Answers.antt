use Rattle.std.proofs.Common.{arith}
use Rattle.cm_conditions.specs.Lexemes.{number_from}
use Rattle.cm_conditions.proofs.LexingSteps.{number_large}
use Rattle.cm_conditions.proofs.lexing.number_lexeme.Goals as goal

pub returns-in-None : goal.returns-in-None
returns-in-None c = number_large (number_from 0 c.args.digits.now) (omega (arith, c.in-None.ensures))
