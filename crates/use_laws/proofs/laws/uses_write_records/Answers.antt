use Rattle.use_laws.proofs.Records.{writes_records}
use Rattle.use_laws.proofs.laws.uses_write_records.Goals as goal

pub returns : goal.returns
returns c = writes_records
