use Rattle.node_bytes.proofs.Again.{alone_again}
use Rattle.node_bytes.proofs.laws.spelled_is_read.Goals as goal

pub returns : goal.returns
returns c = alone_again
