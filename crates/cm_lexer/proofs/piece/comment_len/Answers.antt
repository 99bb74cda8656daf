use Rattle.std.proofs.Common.{arith, length, length-drop}
use Rattle.cm_lexer.specs.Pieces.{comment_len}
use Rattle.cm_lexer.proofs.Comments.{passed_more}
use Rattle.cm_lexer.proofs.piece.comment_len.Goals as goal

pub loop-depth-preserved : goal.loop-depth-preserved
loop-depth-preserved c =
    let rest = c.loop-depth.rest.now in
    let len = c.pass_mark-open.result.1 in
    let left = length-drop len rest in
    let found = passed_more (length c.args.bytes.now) len c.loop-depth.depth c.pass_mark-open.result.0
    (comment_len 1 c.args.bytes.now) rest c.pass_mark-open.ensures.within c.loop-depth.invariant.within
    c.loop-depth.invariant.len c.pass_mark-open.ensures.len in
    rw c.split_at.ensures.back (record {
      len = found;
      within = omega (arith, left, c.loop-depth.invariant.within);
      room = omega (arith, left, c.loop-depth.invariant.room, c.pass_mark-open.ensures.room, c.pass_mark-open.ensures.within);
    })
