use Rattle.linker.proofs.Spelled.{no_front}
use Rattle.linker.proofs.laws.no_front_is_whole.Goals as goal

pub returns : goal.returns
returns c = no_front
