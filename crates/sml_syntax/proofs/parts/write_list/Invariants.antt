use Rattle.std.proofs.Common.{◌≡◌, ◌++◌, drop, flat_map}
use Rattle.cm_bytes.specs.Fields.{list_of}
use Rattle.sml_syntax.proofs.parts.write_list.Given as goal

-- what is written, and the items that are left
abbrev pub invariant-loop-item : goal.invariant-loop-item
invariant-loop-item g l =
    let bytes = g.T.Spelled.bytes in
    l.out ++ flat_map bytes (drop l.item-index l.items) ≡ l.fn.out ++ list_of bytes l.fn.items
