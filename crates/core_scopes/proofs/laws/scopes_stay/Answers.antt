use Rattle.core_scopes.proofs.Scoping.{stays_in_scope}
use Rattle.core_scopes.proofs.laws.scopes_stay.Goals as goal

pub returns : goal.returns
returns g c = stays_in_scope _
