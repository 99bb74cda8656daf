use Rattle.std.proofs.Common.{◌-◌, drop}
use Rattle.core_parser.specs.Cursors.{state}
use Rattle.core_types.specs.Types.{ty}
use Rattle.core_parser.proofs.CursorSteps.{answers}
use Rattle.core_parser.proofs.parsing.ty_here.Goals as goal

pub returns : goal.returns
returns c =
    let lexemes = c.args.at.now.lexemes in
    let reading = c.ty_from-reading.result in
    answers (ty (128 - c.args.at.now.nest)) (state c.args.at.now) (state c.settle.new.cursor)
    reading.made (drop reading.taken lexemes) c.settle.result
    (rw (c.as_slice.ensures, c.levels-levels.ensures) at c.ty_from-reading.ensures) c.settle.ensures
