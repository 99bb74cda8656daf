use Rattle.std.proofs.Common.{sym, ◌∙◌}
use Rattle.dependency_graph.proofs.Nearest.{least_only, least_new}
use Rattle.dependency_graph.proofs.cycle.lesser.Goals as goal

-- the first unit with a flag
pub returns-in-true-None : goal.returns-in-true-None
returns-in-true-None c is = least_only _ _ _ c.in-true-None.is-0 (rw c.in-true-None.is-1 at is)

-- a unit whose name is less
pub returns-then-is_after : goal.returns-then-is_after
returns-then-is_after c is =
    least_new _ _ _ _ (rw c.in-true-Some.is-1 at is) c.in-true-Some.is-0 (sym c.is_after.ensures ∙ c.if-is_after.true)
