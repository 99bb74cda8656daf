use Rattle.std.proofs.Common.{◌≡◌, ◌++◌, drop, flat_map}
use Rattle.cm_base.specs.Derived.{escaped}
use Rattle.bundled_tools.proofs.embed.append_string.Given as goal

-- what is written, and the bytes that are left
abbrev pub invariant-loop-byte : goal.invariant-loop-byte
invariant-loop-byte l = l.out ++ flat_map escaped (drop l.byte-index l.text) ≡ l.fn.out ++ flat_map escaped l.fn.text
