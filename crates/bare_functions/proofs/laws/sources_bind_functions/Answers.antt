use Rattle.bare_functions.proofs.Units.{sources_bind_functions}
use Rattle.bare_functions.proofs.laws.sources_bind_functions.Goals as goal

pub returns : goal.returns
returns c = sources_bind_functions
