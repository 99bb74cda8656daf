use Rattle.node_bytes.proofs.Same.{nodes_told}
use Rattle.node_bytes.proofs.laws.nodes_are_told.Goals as goal

pub returns : goal.returns
returns c = nodes_told
