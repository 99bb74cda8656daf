use Rattle.bare_functions.proofs.Units.{sources_have_derivations}
use Rattle.bare_functions.proofs.laws.sources_have_derivations.Goals as goal

pub returns : goal.returns
returns c = sources_have_derivations
