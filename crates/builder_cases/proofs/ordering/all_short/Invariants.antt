use Rattle.std.proofs.Common.{◌<◌, ◌^◌, length, take}
use Rattle.std.specs.Prelude.{All}
use Rattle.builder_cases.proofs.ordering.all_short.Given as goal

abbrev pub invariant-loop-name : goal.invariant-loop-name
invariant-loop-name l = All (λ wanted. length wanted.name.name < 2 ^ 32) (take l.name-index l.wanted)
