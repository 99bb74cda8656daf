use Rattle.dependency_graph.specs.Ranked.{AreRanked}
use Rattle.dependency_graph.proofs.ranked.with_names.Given as goal

abbrev pub invariant-loop-unit : goal.invariant-loop-unit
invariant-loop-unit l = AreRanked l.names l.ranks l.unit l.all.items
