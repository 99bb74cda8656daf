use Rattle.core_types.specs.Types.{ty}
use Rattle.core_parser.proofs.CursorSteps.{moved}
use Rattle.core_parser.proofs.parsing.ty_from.Goals as goal

pub returns : goal.returns
returns c =
    rw c.count_before.ensures
    (moved (ty c.args.levels) c.args.all.now c.ty-made.new.lexemes.rest.now c.args.taken c.ty-made.result
    (rw c.behind.ensures at c.ty-made.ensures.reads))
