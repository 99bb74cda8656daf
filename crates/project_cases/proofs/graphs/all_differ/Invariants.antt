use Rattle.std.proofs.Common.{◌≡◌, ◌<◌, ℕ, length}
use Rattle.dependency_graph.specs.Order.{name_of}
use Rattle.project_cases.proofs.graphs.all_differ.Given as goal

abbrev pub invariant-loop-unit : goal.invariant-loop-unit
invariant-loop-unit l =
    (a b : ℕ) → a < l.unit → b < length l.names → name_of l.names a ≡ name_of l.names b → a ≡ b
