use Rattle.std.proofs.Common.{length}
use Rattle.type_cases.proofs.node_lists.+all_below.Given as goal

abbrev pub decreases-all_below : goal.decreases-all_below
decreases-all_below l = length l.places.now
