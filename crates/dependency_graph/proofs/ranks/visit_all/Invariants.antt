use Rattle.std.proofs.Common.{◌≡◌, ◌<◌, ℕ, false}
use Rattle.dependency_graph.specs.Search.{AreNoted, HasNoneOpen, is_new, mark_of}
use Rattle.dependency_graph.proofs.ranks.visit_all.Given as goal

abbrev pub invariant-loop-unit : goal.invariant-loop-unit
invariant-loop-unit l = record {
  noted : AreNoted l.edges l.marks l.ranks;
  none : HasNoneOpen l.marks;
  met : (unit : ℕ) → unit < l.unit → is_new (mark_of l.marks unit) ≡ false;
}
