use Rattle.std.proofs.Common.{◌<◌, take}
use Rattle.std.specs.Prelude.{All}
use Rattle.builder_cases.proofs.ordering.are_below.Given as goal

abbrev pub invariant-loop-list : goal.invariant-loop-list
invariant-loop-list l = All (λ list. All (λ wanted. wanted.provider < l.count) list) (take l.list-index l.wanted)
