use Rattle.std.proofs.Common.{◌≡◌, false}
use Rattle.dependency_graph.specs.Search.{IsVisiting, KeepsMet, steps_left, is_new, mark_of}
use Rattle.dependency_graph.proofs.ranks.visit.Given as goal

abbrev pub invariant-loop-frame : goal.invariant-loop-frame
invariant-loop-frame l = record {
  visiting : IsVisiting l.edges l.marks l.ranks l.stack.items;
  keeps : KeepsMet l.fn.marks l.marks;
  met : is_new (mark_of l.marks l.fn.unit) ≡ false;
}

abbrev pub decreases-loop-frame : goal.decreases-loop-frame
decreases-loop-frame l = steps_left l.marks l.stack.items
