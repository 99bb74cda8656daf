use Rattle.known_environments.proofs.Becoming.{nothing_known}
use Rattle.known_environments.proofs.known.Known.new.Goals as goal

pub returns : goal.returns
returns c s = nothing_known s (record { places = c.new.result; trees = c.new-2.result }) c.new.ensures
