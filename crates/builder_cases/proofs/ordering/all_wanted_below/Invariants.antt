use Rattle.std.proofs.Common.{◌<◌, take}
use Rattle.std.specs.Prelude.{All}
use Rattle.builder_cases.proofs.ordering.all_wanted_below.Given as goal

abbrev pub invariant-loop-name : goal.invariant-loop-name
invariant-loop-name l = All (λ wanted. wanted.provider < l.count) (take l.name-index l.wanted)
