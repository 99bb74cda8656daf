use Rattle.std.proofs.Common.{◌≡◌, length, map, take}
use Rattle.dependency_graph.proofs.components.sizes.Given as goal

abbrev pub invariant-loop-list : goal.invariant-loop-list
invariant-loop-list l = l.sizes.items ≡ map length (take l.list-index l.edges)
