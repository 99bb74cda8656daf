use Rattle.std.proofs.Common.{◌≡◌, ◌<◌, ℕ, true}
use Rattle.std.specs.Ordering.{is_lt, nat_cmp}
use Rattle.std.specs.Cmp.Lexicographic.{slice_cmp}
use Rattle.dependency_graph.specs.Order.{name_of}
use Rattle.project_cases.proofs.graphs.all_rise.Given as goal

abbrev pub invariant-loop-unit : goal.invariant-loop-unit
invariant-loop-unit l =
    (a b : ℕ) → a < b → b < l.unit → is_lt (slice_cmp nat_cmp (name_of l.names a) (name_of l.names b)) ≡ true
