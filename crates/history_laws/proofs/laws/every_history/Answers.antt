use Rattle.history_laws.proofs.Histories.{every_history}
use Rattle.history_laws.proofs.laws.every_history.Goals as goal

pub returns : goal.returns
returns c = every_history
