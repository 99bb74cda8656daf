use Rattle.std.proofs.Common.{length}
use Rattle.table_cases.proofs.labels.+all_differ.Given as goal

abbrev pub decreases-all_differ : goal.decreases-all_differ
decreases-all_differ l = length l.labels.now
