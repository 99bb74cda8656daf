use Rattle.source_codes.proofs.Sources.{sources_read}
use Rattle.source_codes.proofs.laws.sources_have_codes.Goals as goal

pub returns : goal.returns
returns c = sources_read
