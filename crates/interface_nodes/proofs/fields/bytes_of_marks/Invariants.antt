use Rattle.std.proofs.Common.{◌≡◌, ◌++◌, map, drop}
use Rattle.interface_format.specs.Tags.{bool_byte}
use Rattle.interface_nodes.proofs.fields.bytes_of_marks.Given as goal

abbrev pub invariant-loop-mark : goal.invariant-loop-mark
invariant-loop-mark l =
    l.bytes.items ++ map bool_byte (drop l.mark-index l.fn.marks) ≡ map bool_byte l.fn.marks
