use Rattle.std.proofs.Common.{◌≡◌, map, take}
use Rattle.dependency_graph.specs.Order.{name_of}
use Rattle.dependency_graph.proofs.refusal.cycle_diag.Given as goal

-- the names of the units so far
abbrev pub invariant-loop-unit : goal.invariant-loop-unit
invariant-loop-unit l = l.shown ≡ map (name_of l.names) (take l.unit-index l.units)
