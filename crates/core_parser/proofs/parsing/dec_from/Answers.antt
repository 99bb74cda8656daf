use Rattle.core_expressions.specs.Levels.{dec}
use Rattle.core_parser.proofs.CursorSteps.{moved_dec}
use Rattle.core_parser.proofs.parsing.dec_from.Goals as goal

pub returns-clause-reads : goal.returns-clause-reads
returns-clause-reads c =
    rw c.count_before.ensures
    (moved_dec (dec c.args.levels c.args.fixities.now) c.args.all.now c.one_dec-made.new.lexemes.rest.now c.args.taken
    c.one_dec-made.result c.one_dec-made.new.fixities (rw c.behind.ensures at c.one_dec-made.ensures.reads))
