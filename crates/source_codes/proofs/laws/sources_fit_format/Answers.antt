use Rattle.source_codes.proofs.Sources.{sources_fit}
use Rattle.source_codes.proofs.laws.sources_fit_format.Goals as goal

pub returns : goal.returns
returns c = sources_fit
