use Rattle.cm_bytes.proofs.Fields.{no_front}
use Rattle.cm_bytes.proofs.laws.no_front_is_whole.Goals as goal

pub returns : goal.returns
returns g c = no_front
