use Rattle.std.proofs.Common.{◌≡◌, map, take}
use Rattle.project_planning.proofs.graph.unit_names.Given as goal

-- the names so far
abbrev pub invariant-loop-unit : goal.invariant-loop-unit
invariant-loop-unit l = l.names ≡ map (λ unit. unit.name) (take l.unit-index l.project.units)
