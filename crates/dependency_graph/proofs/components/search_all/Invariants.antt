use Rattle.std.proofs.Common.{◌≡◌, ◌<◌, ℕ, [], false}
use Rattle.dependency_graph.specs.Search.{is_new, mark_of}
use Rattle.dependency_graph.specs.Components.{IsHeld, hold_of}
use Rattle.dependency_graph.proofs.components.search_all.Given as goal

abbrev pub invariant-loop-unit : goal.invariant-loop-unit
invariant-loop-unit l = record {
  held : IsHeld l.edges (hold_of l.marks l.places l.left l.flags [] [] []);
  met : (unit : ℕ) → unit < l.unit → is_new (mark_of l.marks unit) ≡ false;
}
