use Rattle.std.proofs.Common.{◌≡◌, map, take}
use Rattle.project_planning.specs.Planning.{providers_of}
use Rattle.project_planning.proofs.graph.edges_of.Given as goal

-- the edges so far
abbrev pub invariant-loop-imports : goal.invariant-loop-imports
invariant-loop-imports l = l.edges ≡ map providers_of (take l.imports-index l.wanted)
