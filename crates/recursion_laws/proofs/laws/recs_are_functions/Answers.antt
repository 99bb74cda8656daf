use Rattle.recursion_laws.proofs.Units.{recs_are_functions}
use Rattle.recursion_laws.proofs.laws.recs_are_functions.Goals as goal

pub returns : goal.returns
returns c = recs_are_functions
