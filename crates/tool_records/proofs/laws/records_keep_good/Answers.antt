use Rattle.tool_records.proofs.Storing.{put_is_good, torn_is_good, gone_is_good, good_is_true}
use Rattle.tool_records.proofs.laws.records_keep_good.Goals as goal

pub returns-clause-keeps : goal.returns-clause-keeps
returns-clause-keeps c = record { puts = put_is_good; torn = torn_is_good; gone = gone_is_good }

pub returns-clause-true_records : goal.returns-clause-true_records
returns-clause-true_records c = good_is_true
