use Rattle.std.proofs.Common.{arith}
use Rattle.std.proofs.lemmas.Grind.{common_steps}
use Rattle.cm_conditions.proofs.PrintingSteps.{printed-Chain}
use Rattle.cm_conditions.proofs.printing.+printing.Goals as goal

pub add_condition-returns-in_ok-add_condition-in-Chain :
    goal.add_condition-returns-in_ok-add_condition-in-Chain
add_condition-returns-in_ok-add_condition-in-Chain t c =
    rw (c.in-Chain.is, printed-Chain) (grind (arith, common_steps))
