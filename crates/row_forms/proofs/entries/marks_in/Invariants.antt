use Rattle.std.proofs.Common.{◌≡◌, ◌++◌, map, drop}
use Rattle.interface_format.specs.Tags.{bool_byte}
use Rattle.row_forms.proofs.entries.marks_in.Given as goal

abbrev pub invariant-loop-byte : goal.invariant-loop-byte
invariant-loop-byte l = map bool_byte l.marks ++ drop l.byte-index l.fn.bytes ≡ l.fn.bytes
