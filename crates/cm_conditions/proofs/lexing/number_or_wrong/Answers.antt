use Rattle.std.proofs.Common.{refl}
use Rattle.cm_conditions.proofs.LexingSteps.{number_small, number_large}
use Rattle.cm_conditions.proofs.lexing.number_or_wrong.Goals as goal

pub returns-then-number-lt9223372036854775808 : goal.returns-then-number-lt9223372036854775808
returns-then-number-lt9223372036854775808 c =
    number_small c.args.number c.args.number refl c.if-number-lt9223372036854775808.true

pub returns-else-number-lt9223372036854775808 : goal.returns-else-number-lt9223372036854775808
returns-else-number-lt9223372036854775808 c =
    number_large c.args.number c.if-number-lt9223372036854775808.false
