use Rattle.module_scopes.proofs.Tops.{tops_stay}
use Rattle.module_scopes.proofs.laws.tops_stay.Goals as goal

pub returns : goal.returns
returns c = tops_stay
