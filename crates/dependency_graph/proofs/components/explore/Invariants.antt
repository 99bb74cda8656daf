use Rattle.std.proofs.Common.{◌≡◌, false}
use Rattle.dependency_graph.specs.Search.{KeepsMet, is_new, mark_of}
use Rattle.dependency_graph.specs.Components.{IsHeld, hold_of, steps_to_go}
use Rattle.dependency_graph.proofs.components.explore.Given as goal

abbrev pub invariant-loop-top : goal.invariant-loop-top
invariant-loop-top l = record {
  held : IsHeld l.edges (hold_of l.marks l.places l.left l.flags l.held.items l.path.items l.starts.items);
  keeps : KeepsMet l.fn.marks l.marks;
  met : is_new (mark_of l.marks l.fn.unit) ≡ false;
}

abbrev pub decreases-loop-top : goal.decreases-loop-top
decreases-loop-top l = steps_to_go l.left l.marks l.path.items
