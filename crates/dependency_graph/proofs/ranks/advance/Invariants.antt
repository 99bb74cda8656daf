use Rattle.dependency_graph.specs.Search.{IsPart}
use Rattle.dependency_graph.specs.declared.ranks.Frame.{Frame}
use Rattle.dependency_graph.proofs.ranks.advance.Given as goal

abbrev pub invariant-loop-next : goal.invariant-loop-next
invariant-loop-next l =
    let frame : Frame = record { unit = l.unit; next = l.next; rank = l.rank } in IsPart l.edges frame
