use Rattle.node_bytes.proofs.Shapes.{have_shapes}
use Rattle.node_bytes.proofs.laws.fields_have_shapes.Goals as goal

pub returns : goal.returns
returns g c = have_shapes _
