use Rattle.tool_deriving.proofs.Runs.{second_rests}
use Rattle.tool_deriving.proofs.laws.a_second_use_rests.Goals as goal

pub returns : goal.returns
returns c = second_rests
