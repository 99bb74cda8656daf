use Rattle.std.proofs.Common.{◌≡◌, ◌≤◌, ◌+◌, ℕ, true, false}
use Rattle.unification.specs.Types.{size, occurs}
use Rattle.type_nodes.specs.Nodes.{rigid_in}
use Rattle.type_nodes.specs.Facts.{capped}
use Rattle.type_nodes.specs.Tables.{whole}
use Rattle.sml_types.specs.Sizing.{sizes, HaveAll}
use Rattle.sml_types.specs.Weighing.{is_met}
use Rattle.sml_types.proofs.weigh.weight_of.Given as goal

abbrev pub invariant-loop-id : goal.invariant-loop-id
invariant-loop-id l = record {
  table : l.table ≡ l.fn.table;
  same : capped (l.counted.size + sizes l.fn.table l.left) ≡ capped (size (whole l.fn.table l.fn.id));
  met : (v : ℕ) → rigid_in l.fn.table.births v ≡ false → occurs v (whole l.fn.table l.fn.id) ≡ true
      → is_met l.fn.table l.counted.above l.left v ≡ true;
  all : HaveAll l.fn.table l.left;
  within : l.counted.size ≤ 65537;
}

abbrev pub decreases-loop-id : goal.decreases-loop-id
decreases-loop-id l = sizes l.fn.table l.left
