use Rattle.std.proofs.Common.{sym, ◌∙◌}
use Rattle.dependency_graph.proofs.Nearest.{first_only, first_new, first_kept}
use Rattle.dependency_graph.proofs.cycle.better.Goals as goal

-- the first unit with a distance
pub returns-in-Some-None : goal.returns-in-Some-None
returns-in-Some-None c list is =
    first_only _ _ list _ _ (rw c.in-Some-None.is-1 at is) c.in-Some-None.is-0

-- a nearer unit
pub returns-then-comes_first : goal.returns-then-comes_first
returns-then-comes_first c list is =
    first_new _ _ list _ _ _ (rw c.in-Some-Some.is-1 at is) c.in-Some-Some.is-0
    (sym c.comes_first.ensures ∙ c.if-comes_first.true)

-- no nearer unit
pub returns-else-comes_first : goal.returns-else-comes_first
returns-else-comes_first c list is =
    first_kept _ _ list _ _ _ (rw c.in-Some-Some.is-1 at is) c.in-Some-Some.is-0
    (sym c.comes_first.ensures ∙ c.if-comes_first.false)
