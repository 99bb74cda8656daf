use Rattle.value_closing.proofs.Staying.{stays_of_table}
use Rattle.value_closing.proofs.laws.tables_hold_their_scopes.Goals as goal

pub returns : goal.returns
returns c = stays_of_table
