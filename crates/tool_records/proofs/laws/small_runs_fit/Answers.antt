use Rattle.tool_records.proofs.Sizes.{derived_short, small_fits, small_is_short}
use Rattle.tool_records.proofs.laws.small_runs_fit.Goals as goal

pub returns-clause-text : goal.returns-clause-text
returns-clause-text c = derived_short

pub returns-clause-record : goal.returns-clause-record
returns-clause-record c = record { spelled = small_fits; small = small_is_short }
