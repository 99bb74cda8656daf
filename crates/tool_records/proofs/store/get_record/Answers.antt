use Rattle.std.proofs.Common.{◌∙◌}
use Rattle.tool_records.proofs.Storing.{stored_record_read}
use Rattle.tool_records.proofs.store.get_record.Goals as goal

pub returns-clause-found : goal.returns-clause-found
returns-clause-found g c = λ files is.
    c.in_ok-record_of_file.ensures
    ∙ stored_record_read files c.args.unit.now _ _ c.in_ok-path.ensures (c.in_ok-file.ensures.read files is)
