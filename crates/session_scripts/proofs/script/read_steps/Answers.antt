use Rattle.std.proofs.Common.{arith}
use Rattle.session_scripts.proofs.PartLemmas.{part_added}
use Rattle.session_scripts.proofs.script.read_steps.Goals as goal

pub loop-rest-preserved : goal.loop-rest-preserved
loop-rest-preserved c = record {
  so = part_added _ c.add.new.steps c.in_ok-part.part.step _ _ _ c.in_ok-part.ensures.part.steps c.in_ok-add.ensures
      c.loop-rest.invariant.so;
  room = omega (arith, c.in_ok-part.ensures.part.room, c.loop-rest.invariant.room);
}
