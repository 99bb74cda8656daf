use Rattle.datatype_elab.proofs.OwnTypes.{bound_more}
use Rattle.datatype_elab.proofs.trees.bound_trees.Goals as goal

pub loop-place-preserved : goal.loop-place-preserved
loop-place-preserved c =
    bound_more c.loop-place.trees c.add.new.self c.loop-place.place c.in_ok-make.field-0 c.loop-place.invariant
    c.in_ok-make.ensures c.in_ok-add.ensures.ok
