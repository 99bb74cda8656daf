use Rattle.std.proofs.Common.{◌≡◌, ◌++◌, drop, map}
use Rattle.environment_nodes.specs.Written.{value_asked, value_answered}
use Rattle.environment_nodes.proofs.rows.placed_values.Given as goal

abbrev pub invariant-loop-at : goal.invariant-loop-at
invariant-loop-at l =
    map value_answered l.made ++ map (value_asked l.fn.graph.items l.fn.places) (drop l.at l.fn.rows)
    ≡ map (value_asked l.fn.graph.items l.fn.places) l.fn.rows
