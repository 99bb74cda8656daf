use Rattle.node_bytes.proofs.Examples.{are_so}
use Rattle.node_bytes.proofs.laws.interfaces_are_so.Goals as goal

pub returns : goal.returns
returns c = are_so
