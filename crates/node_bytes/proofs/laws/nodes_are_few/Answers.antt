use Rattle.node_bytes.proofs.Again.{nodes_few}
use Rattle.node_bytes.proofs.laws.nodes_are_few.Goals as goal

pub returns : goal.returns
returns c = nodes_few
