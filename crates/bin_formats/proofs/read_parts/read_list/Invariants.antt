use Rattle.std.proofs.Common.{◌-◌}
use Rattle.cm_bytes.specs.Fields.{items_at}
use Rattle.cm_bytes.proofs.Items.{HasRead}
use Rattle.bin_formats.proofs.read_parts.read_list.Given as goal

-- the items so far, and those that are left
abbrev pub invariant-loop : goal.invariant-loop
invariant-loop g l =
    let item_at = g.T.Readable.step in
    HasRead item_at (items_at item_at l.count l.initial.reader) l.items (l.count - l.counter) l.reader
