use Rattle.std.proofs.Common.{take}
use Rattle.std.specs.Prelude.{All}
use Rattle.cutoff_builder.specs.Small.{AreShortNames}
use Rattle.builder_cases.proofs.ordering.are_short.Given as goal

abbrev pub invariant-loop-list : goal.invariant-loop-list
invariant-loop-list l = All AreShortNames (take l.list-index l.wanted)
