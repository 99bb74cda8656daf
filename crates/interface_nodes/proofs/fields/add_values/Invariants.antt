use Rattle.std.proofs.Common.{◌≡◌, ◌++◌, drop}
use Rattle.std.specs.List.{flat_map}
use Rattle.interface_nodes.specs.Fields.{value_items, values_items}
use Rattle.interface_nodes.proofs.fields.add_values.Given as goal

abbrev pub invariant-loop-row : goal.invariant-loop-row
invariant-loop-row l =
    l.items ++ flat_map value_items (drop l.row-index l.fn.rows) ≡ l.fn.items ++ values_items l.fn.rows
