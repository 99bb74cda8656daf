use Rattle.node_bytes.proofs.Exact.{alone_spelled, one_spelling}
use Rattle.node_bytes.proofs.laws.read_is_spelled.Goals as goal

pub returns-clause-spelled : goal.returns-clause-spelled
returns-clause-spelled c = alone_spelled

pub returns-clause-one : goal.returns-clause-one
returns-clause-one c = one_spelling
