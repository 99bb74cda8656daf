use Rattle.std.proofs.Common.{length}
use Rattle.type_cases.proofs.node_lists.+all_rise.Given as goal

abbrev pub decreases-all_rise : goal.decreases-all_rise
decreases-all_rise l = length l.labels.now
