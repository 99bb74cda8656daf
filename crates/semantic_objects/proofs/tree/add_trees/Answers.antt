use Rattle.semantic_objects.proofs.Adding.{placed_step}
use Rattle.semantic_objects.proofs.tree.add_trees.Goals as goal

pub loop-part-preserved : goal.loop-part-preserved
loop-part-preserved c = placed_step c.args.nodes.now c.loop-part.nodes c.add_to.new.nodes c.loop-part.places
    c.add.new.self c.in_ok-at.at c.loop-part.part-index c.part-item.result c.args.parts.now
    c.as_slice-part-items.result.now c.args.parts.now c.as_slice-part-items.ensures c.loop-part-test.true
    c.part-item.is c.loop-part.invariant c.in_ok-at.ensures c.in_ok-add.ensures.ok
