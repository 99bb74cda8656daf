use Rattle.std.proofs.Common.{◌≡◌, ◌≤◌, ◌+◌, drop}
use Rattle.std.specs.List.{fold}
use Rattle.sml_lexer.specs.Lexing.{after_byte}
use Rattle.sml_lexer.proofs.place.after_bytes.Given as goal

-- the place so far, followed through the bytes that are left, is the place after all
abbrev pub invariant-loop-byte : goal.invariant-loop-byte
invariant-loop-byte l = record {
  value : fold after_byte l.now (drop l.byte-index l.bytes) ≡ fold after_byte l.fn.at l.bytes;
  line : l.now.line ≤ l.fn.at.line + l.byte-index;
  col : l.now.col ≤ l.fn.at.col + l.byte-index;
}
