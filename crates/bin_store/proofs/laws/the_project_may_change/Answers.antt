use Rattle.bin_store.proofs.Elsewhere.{good_by_part, put_keeps_good, remove_keeps_good}
use Rattle.bin_store.proofs.laws.the_project_may_change.Goals as goal

pub returns-clause-part : goal.returns-clause-part
returns-clause-part c = good_by_part

pub returns-clause-edits : goal.returns-clause-edits
returns-clause-edits c = record { puts = put_keeps_good; removes = remove_keeps_good }
