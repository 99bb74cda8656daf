use Rattle.std.proofs.Common.{◌≡◌, ◌++◌, drop, map}
use Rattle.environment_nodes.specs.Written.{row_asked, row_answered}
use Rattle.environment_nodes.proofs.rows.placed_rows.Given as goal

abbrev pub invariant-loop-at : goal.invariant-loop-at
invariant-loop-at l = map row_answered l.made ++ map (row_asked l.fn.places) (drop l.at l.fn.rows)
    ≡ map (row_asked l.fn.places) l.fn.rows
