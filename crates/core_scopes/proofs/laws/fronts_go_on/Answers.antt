use Rattle.core_scopes.proofs.Scoping.{fronts_go_on}
use Rattle.core_scopes.proofs.laws.fronts_go_on.Goals as goal

pub returns : goal.returns
returns g c = fronts_go_on _
