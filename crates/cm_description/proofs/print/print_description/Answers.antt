use Rattle.std.proofs.Common.{arith}
use Rattle.std.proofs.lemmas.Grind.{common_steps}
use Rattle.cm_description.proofs.PrintedAgain.{printed_as_read}
use Rattle.cm_description.proofs.print.print_description.Goals as goal

pub returns-clause-again : goal.returns-clause-again
returns-clause-again c =
    printed_as_read c.args.description.now c.from_vec.result (grind (arith, common_steps)) c.requires
