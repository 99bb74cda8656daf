use Rattle.std.proofs.Common.{ap, arith, length}
use Rattle.path_anchors.proofs.PartLemmas.{err_is}
use Rattle.session_scripts.proofs.PartLemmas.{later_shorter, line_stops, part_is}
use Rattle.session_scripts.proofs.script.read_part.Goals as goal

pub returns-in_err-line-clause-refusal : goal.returns-in_err-line-clause-refusal
returns-in_err-line-clause-refusal c =
    line_stops c.from_residual.result c.in_err-line.field-0.0 c.args.file.now c.args.number c.front_line.result.now c.args.text.now
    (err_is c.from_residual.result _ c.from_residual.ensures.1) c.front_line.ensures c.in_err-line.ensures

pub part_of-requires : goal.part_of-requires
part_of-requires c =
    omega (arith, ap length c.later_text.ensures.rest, later_shorter c.args.text.now c.requires.some, c.requires.room)

pub returns-clause-part : goal.returns-clause-part
returns-clause-part c =
    let read = rw c.front_line.ensures at c.in_ok-line.ensures in
    part_is c.args.file.now c.args.number c.args.text.now c.later_text.result.now _ c.in_ok-line.line _ _ c.requires.some
    c.later_text.ensures.rest read c.in_ok-part_of.ensures
