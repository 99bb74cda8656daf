use Rattle.std.proofs.Common.{take, ◌≤◌}
use Rattle.std.specs.Prelude.{count_by}
use Rattle.dependency_graph.specs.Search.{is_new}
use Rattle.dependency_graph.specs.Components.{AreMarked}
use Rattle.dependency_graph.proofs.components.mark_all.Given as goal

abbrev pub invariant-loop-unit : goal.invariant-loop-unit
invariant-loop-unit l = record {
  marked : AreMarked (take l.unit-index l.list) l.flag l.fn.marks l.marks l.fn.flags l.flags;
  fewer : count_by is_new l.marks ≤ count_by is_new l.fn.marks;
}
