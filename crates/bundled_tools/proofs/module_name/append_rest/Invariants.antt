use Rattle.std.proofs.Common.{◌≡◌, ◌++◌, drop, map}
use Rattle.bundled_tools.specs.Lines.{name_byte}
use Rattle.bundled_tools.proofs.module_name.append_rest.Given as goal

-- what is written, and the bytes that are left
abbrev pub invariant-loop-byte : goal.invariant-loop-byte
invariant-loop-byte l = l.out ++ map name_byte (drop l.byte-index l.part) ≡ l.fn.out ++ map name_byte l.fn.part
