use Rattle.where_types.proofs.Names.{is_name}
use Rattle.where_types.proofs.replacing.is_name.Goals as goal

pub returns : goal.returns
returns c = is_name c.args.name.now c.args.other.now c.is_same.result c.is_same.ensures.0 c.is_same.ensures.1
