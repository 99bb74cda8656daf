use Rattle.core_patterns.specs.Patterns.{pat}
use Rattle.core_parser.proofs.CursorSteps.{moved}
use Rattle.core_parser.proofs.parsing.pat_from.Goals as goal

pub returns : goal.returns
returns c =
    rw c.count_before.ensures
    (moved (pat c.args.fixities.now c.args.levels) c.args.all.now c.pat-made.new.lexemes.rest.now c.args.taken c.pat-made.result
    (rw c.behind.ensures at c.pat-made.ensures.reads))
