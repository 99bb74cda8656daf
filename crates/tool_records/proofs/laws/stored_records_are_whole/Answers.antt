use Rattle.tool_records.proofs.Records.{record_in_is_read}
use Rattle.tool_records.proofs.Storing.{record_is_whole, record_is_stored, record_unit, put_is_stored}
use Rattle.tool_records.proofs.laws.stored_records_are_whole.Goals as goal

pub returns-clause-read : goal.returns-clause-read
returns-clause-read c = record_in_is_read

pub returns-clause-exact : goal.returns-clause-exact
returns-clause-exact c = record {
  exact = λ files unit run. (record_is_whole files unit run, record_is_stored files unit run);
  unit = record_unit;
}

pub returns-clause-put : goal.returns-clause-put
returns-clause-put c = put_is_stored
