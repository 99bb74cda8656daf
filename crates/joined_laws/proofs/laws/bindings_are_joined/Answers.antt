use Rattle.joined_laws.proofs.Whole.{bindings_are}
use Rattle.joined_laws.proofs.laws.bindings_are_joined.Goals as goal

pub returns : goal.returns
returns c = bindings_are
