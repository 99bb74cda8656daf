use Rattle.std.proofs.Common.{◌≡◌, map, take}
use Rattle.dependency_graph.specs.declared.ranked.Ranked.{Ranked}
use Rattle.dependency_graph.proofs.ranked.units_of.Given as goal

abbrev pub invariant-loop-ranked : goal.invariant-loop-ranked
invariant-loop-ranked l = l.units.items ≡ map (λ (ranked : Ranked). ranked.unit) (take l.ranked-index l.all)
