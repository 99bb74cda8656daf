use Rattle.graph_cases.proofs.Having.{have_added}
use Rattle.graph_cases.proofs.scene.GraphScene.many_structures.Goals as goal

pub loop-number-preserved : goal.loop-number-preserved
loop-number-preserved c = record {
  structures = have_added c.empty_env.new.self c.loop-number.structures _ c.add.new.self
      c.loop-number.invariant.structures c.loop-number.invariant.env c.in_ok-add.ensures.ok;
  env = c.loop-number.invariant.env;
}
