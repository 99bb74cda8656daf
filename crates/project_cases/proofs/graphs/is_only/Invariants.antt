use Rattle.std.proofs.Common.{◌≡◌, ◌<◌, ℕ}
use Rattle.dependency_graph.specs.Order.{name_of}
use Rattle.project_cases.proofs.graphs.is_only.Given as goal

abbrev pub invariant-loop-other : goal.invariant-loop-other
invariant-loop-other l =
    (other : ℕ) → other < l.other → name_of l.names l.unit ≡ name_of l.names other → l.unit ≡ other
