use Rattle.std.proofs.Common.{◌≡◌, ◌≤◌, ◌+◌, ◌-◌, length}
use Rattle.cm_lexer.specs.Pieces.{comment_len, longer}
use Rattle.cm_lexer.proofs.piece.comment_len.Given as goal

-- the comments open here end where the first does; each of them has a byte before here, but the first
abbrev pub invariant-loop-depth : goal.invariant-loop-depth
invariant-loop-depth l = record {
  len : comment_len 1 l.fn.bytes ≡ longer (length l.fn.bytes - length l.rest) (comment_len l.depth l.rest);
  within : length l.rest ≤ length l.fn.bytes;
  room : l.depth + length l.rest ≤ 1 + length l.fn.bytes;
}

abbrev pub decreases-loop-depth : goal.decreases-loop-depth
decreases-loop-depth l = length l.rest
