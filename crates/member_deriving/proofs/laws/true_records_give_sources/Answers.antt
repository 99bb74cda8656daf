use Rattle.member_deriving.proofs.Giving.{over_true}
use Rattle.member_deriving.proofs.laws.true_records_give_sources.Goals as goal

pub returns : goal.returns
returns c = over_true
