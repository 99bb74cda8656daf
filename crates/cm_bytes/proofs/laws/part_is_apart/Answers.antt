use Rattle.cm_bytes.proofs.Hashes.{HashesApart-part}
use Rattle.cm_bytes.proofs.laws.part_is_apart.Goals as goal

pub returns : goal.returns
returns c = HashesApart-part
