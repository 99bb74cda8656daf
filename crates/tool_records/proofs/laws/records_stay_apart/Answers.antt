use Rattle.tool_records.proofs.Storing.{record_no_bin, record_no_interface, record_no_record, bin_no_record, interface_no_record, torn_absent}
use Rattle.tool_records.proofs.laws.records_stay_apart.Goals as goal

pub returns-clause-records : goal.returns-clause-records
returns-clause-records c = record { bins = record_no_bin; interfaces = record_no_interface; records = record_no_record }

pub returns-clause-others : goal.returns-clause-others
returns-clause-others c = record { bins = bin_no_record; interfaces = interface_no_record }

pub returns-clause-torn : goal.returns-clause-torn
returns-clause-torn c = torn_absent
