use Rattle.dependency_graph.proofs.Nearest.{some_flag}
use Rattle.dependency_graph.proofs.cycle.least_on_cycle.Goals as goal

-- some unit has a flag
pub unreachable-requires : goal.unreachable-requires
unreachable-requires c =
    let none = rw c.as_slice.ensures.value at c.in-None.ensures in
    some_flag _ _ _ c.in_ok-flags.ensures c.requires.lists c.requires.cycle none
