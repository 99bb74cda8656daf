use Rattle.grammars.proofs.Lawful.{read_in_turn}
use Rattle.grammars.proofs.laws.rounds_are_read_in_turn.Goals as goal

pub returns : goal.returns
returns g c = read_in_turn g.R.Repeated.begins g.R.Repeated.round
