use Rattle.name_laws.proofs.Units.{names_fit}
use Rattle.name_laws.proofs.laws.names_fit.Goals as goal

pub returns : goal.returns
returns c = names_fit
