use Rattle.std.proofs.Common.{arith}
use Rattle.std.proofs.lemmas.Grind.{common_steps}
use Rattle.cm_conditions.proofs.PrintedAgain.{printed_as_read}
use Rattle.cm_conditions.proofs.printing.print_condition.Goals as goal

pub returns-clause-again : goal.returns-clause-again
returns-clause-again c = printed_as_read c.from_vec.result c.args.cond.now (grind (arith, common_steps))
