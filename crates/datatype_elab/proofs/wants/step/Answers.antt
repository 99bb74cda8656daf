use Rattle.std.proofs.Common.{length}
use Rattle.datatype_elab.proofs.Wanting.{parts_below}
use Rattle.datatype_elab.proofs.wants.step.Goals as goal

pub look-requires : goal.look-requires
look-requires c =
    parts_below c.args.nodes.now (length c.args.marks.now) c.args.at c.index-nodes-at.result c.requires.nodes
    c.requires.within c.requires.counted c.index-nodes-at.is
