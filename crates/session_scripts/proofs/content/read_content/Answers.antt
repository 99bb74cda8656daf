use Rattle.std.proofs.Common.{ap, arith, length}
use Rattle.session_scripts.proofs.PartLemmas.{content_more, steps_more}
use Rattle.session_scripts.proofs.content.read_content.Goals as goal

pub loop-after-preserved : goal.loop-after-preserved
loop-after-preserved c = record {
  content = content_more _ c.push.new.self.items c.loop-after.rest.now c.in-Some.after.now _ _ c.in-Some.ensures
      (cc (c.in_ok-push.ensures.items, c.in_ok-extend_from_slice.ensures.items, c.front_line.ensures)) c.later_text-rest.ensures.rest
      c.loop-after.invariant.content;
  later = λ file number. steps_more file number _ c.loop-after.rest.now c.in-Some.after.now _ _ c.in-Some.ensures
      c.later_text-rest.ensures.rest (c.loop-after.invariant.later file number);
  room = omega (arith, ap length c.in-Some.ensures, c.loop-after.invariant.room, c.later_text-rest.ensures.within);
}
