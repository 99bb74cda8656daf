use Rattle.std.proofs.Common.{◌≡◌, map, take}
use Rattle.project_planning.proofs.graph.providers_of.Given as goal

-- the providers so far
abbrev pub invariant-loop-wanted : goal.invariant-loop-wanted
invariant-loop-wanted l = l.providers ≡ map (λ wanted. wanted.provider) (take l.wanted-index l.imports)
