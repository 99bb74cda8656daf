use Rattle.history_laws.proofs.Histories.{every_list_of_calls}
use Rattle.history_laws.proofs.laws.every_list_of_calls.Goals as goal

pub returns : goal.returns
returns c = every_list_of_calls
