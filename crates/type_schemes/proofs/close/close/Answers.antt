use Rattle.std.proofs.Common.{◌∙◌}
use Rattle.type_schemes.proofs.Flattening.{closed_below}
use Rattle.type_schemes.proofs.close.close.Goals as goal

pub make-requires : goal.make-requires
make-requires c = closed_below c.args.table.now c.args.numbers.now.variables c.args.ty c.in_ok-marks.marks
    c.from_nodes-body.result c.is_kept.ensures.kept c.requires.has c.in_ok-marks.ensures
    (c.from_nodes-body.ensures ∙ c.in_ok-closed_nodes.ensures.root)
