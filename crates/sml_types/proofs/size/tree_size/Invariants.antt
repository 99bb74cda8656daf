use Rattle.std.proofs.Common.{◌≡◌, ◌≤◌, ◌+◌}
use Rattle.unification.specs.Types.{size}
use Rattle.type_nodes.specs.Facts.{capped}
use Rattle.type_nodes.specs.Tables.{whole}
use Rattle.sml_types.specs.Sizing.{sizes, HaveAll}
use Rattle.sml_types.proofs.size.tree_size.Given as goal

abbrev pub invariant-loop-id : goal.invariant-loop-id
invariant-loop-id l = record {
  same : capped (l.counted + sizes l.fn.table l.left) ≡ capped (size (whole l.fn.table l.fn.id));
  all : HaveAll l.fn.table l.left;
  within : l.counted ≤ 65537;
}

abbrev pub decreases-loop-id : goal.decreases-loop-id
decreases-loop-id l = sizes l.fn.table l.left
