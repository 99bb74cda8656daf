use Rattle.std.proofs.Common.{◌≡◌, drop}
use Rattle.cm_lexer.specs.Points.{after}
use Rattle.cm_lexer.proofs.point.Point.after.Given as goal

-- the bytes that are left lead from here to where all lead
abbrev pub invariant-loop-byte : goal.invariant-loop-byte
invariant-loop-byte l = after l.point (drop l.byte-index l.bytes) ≡ after l.fn.self l.fn.bytes
