use Rattle.std.proofs.Common.{◌-◌, drop}
use Rattle.core_parser.specs.Cursors.{state}
use Rattle.core_expressions.specs.Levels.{exp}
use Rattle.core_parser.proofs.CursorSteps.{answers, settles_as}
use Rattle.core_parser.proofs.parsing.exp_here.Goals as goal

pub returns : goal.returns
returns c =
    let old = state c.args.at.now in
    let now = state c.settle.new.cursor in
    let reading = c.exp_from-reading.result in
    let left = drop reading.taken c.args.at.now.lexemes in
    answers (exp (128 - c.args.at.now.nest) c.args.at.now.fixities) old now reading.made left c.settle.result
    (rw (c.as_slice.ensures, c.levels-levels.ensures) at c.exp_from-reading.ensures.reads)
    (settles_as c.exp_from-reading.new.fixities old now reading.made left c.settle.result
    c.exp_from-reading.ensures.same c.settle.ensures)
