use Rattle.std.proofs.Common.{◌≡◌, ◌++◌, drop}
use Rattle.std.specs.List.{flat_map}
use Rattle.interface_nodes.specs.Fields.{part_items, parts_items}
use Rattle.interface_nodes.proofs.fields.add_parts.Given as goal

abbrev pub invariant-loop-place : goal.invariant-loop-place
invariant-loop-place l =
    l.items ++ flat_map part_items (drop l.place-index l.fn.places) ≡ l.fn.items ++ parts_items l.fn.places
