use Rattle.std.proofs.Common.{◌-◌, drop}
use Rattle.core_parser.specs.Cursors.{state}
use Rattle.core_expressions.specs.Levels.{dec}
use Rattle.core_parser.proofs.CursorSteps.{answers_dec}
use Rattle.core_parser.proofs.parsing.dec_here.Goals as goal

pub returns-clause-here : goal.returns-clause-here
returns-clause-here c =
    let old = state c.args.at.now in
    let now = state c.settle.new.cursor in
    let reading = c.dec_from-reading.result in
    let left = drop reading.taken c.args.at.now.lexemes in
    answers_dec (dec (128 - c.args.at.now.nest) c.args.at.now.fixities) c.dec_from-reading.new.fixities old now
    reading.made left c.settle.result
    (rw (c.as_slice.ensures, c.levels-levels.ensures) at c.dec_from-reading.ensures.reads) c.settle.ensures
