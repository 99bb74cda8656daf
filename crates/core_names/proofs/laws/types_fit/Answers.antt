use Rattle.core_names.proofs.Exps.{types}
use Rattle.core_names.proofs.laws.types_fit.Goals as goal

pub returns : goal.returns
returns c = types
