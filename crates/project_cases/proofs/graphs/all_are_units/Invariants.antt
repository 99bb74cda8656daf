use Rattle.std.proofs.Common.{◌<◌, take, length}
use Rattle.std.specs.Prelude.{All}
use Rattle.project_cases.proofs.graphs.all_are_units.Given as goal

abbrev pub invariant-loop-list : goal.invariant-loop-list
invariant-loop-list l = All (λ list. All (λ unit. unit < length l.edges) list) (take l.list-index l.edges)
