use Rattle.constant_laws.proofs.Units.{constants_fit}
use Rattle.constant_laws.proofs.laws.constants_fit.Goals as goal

pub returns : goal.returns
returns c = constants_fit
