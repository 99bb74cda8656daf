use Rattle.node_bytes.proofs.Again.{alone_whole}
use Rattle.node_bytes.proofs.laws.no_front_is_whole.Goals as goal

pub returns : goal.returns
returns c = alone_whole
