use Rattle.use_laws.proofs.Fresh.{stays_fresh}
use Rattle.use_laws.proofs.laws.uses_keep_builds.Goals as goal

pub returns : goal.returns
returns c = stays_fresh
