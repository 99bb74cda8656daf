use Rattle.std.proofs.Common.{take}
use Rattle.std.specs.Prelude.{All}
use Rattle.skeleton_asking.specs.Short.{IsShortSkeleton}
use Rattle.builder_cases.proofs.ordering.are_empty.Given as goal

abbrev pub invariant-loop-skeleton : goal.invariant-loop-skeleton
invariant-loop-skeleton l = All IsShortSkeleton (take l.skeleton-index l.skeletons)
