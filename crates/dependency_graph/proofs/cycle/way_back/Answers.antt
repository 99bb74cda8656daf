use Rattle.dependency_graph.proofs.Nearest.{way_on, closer}
use Rattle.dependency_graph.proofs.cycle.way_back.Goals as goal

-- from the next unit a walk leads on
pub next_unit-next-requires-in-way-clause-way : goal.next_unit-next-requires-in-way-clause-way
next_unit-next-requires-in-way-clause-way c =
    way_on _ _ _ _ _ c.way.invariant.from.1 c.way-test.true

-- the next unit is nearer
pub way-smaller : goal.way-smaller
way-smaller c =
    closer _ _ c.args.distances.now _ _ _ _ c.requires.distances c.way.invariant.from.1 c.way-test.true
    c.next_unit-next-in-way.ensures
