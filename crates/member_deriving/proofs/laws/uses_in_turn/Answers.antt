use Rattle.member_deriving.proofs.Good.{uses_good}
use Rattle.member_deriving.proofs.Uses.{in_turn}
use Rattle.member_deriving.proofs.laws.uses_in_turn.Goals as goal

pub returns-clause-turn : goal.returns-clause-turn
returns-clause-turn c = in_turn

pub returns-clause-good : goal.returns-clause-good
returns-clause-good c = uses_good
