use Rattle.core_expressions.specs.Levels.{exp}
use Rattle.core_parser.proofs.CursorSteps.{moved}
use Rattle.core_parser.proofs.parsing.exp_from.Goals as goal

pub returns-clause-reads : goal.returns-clause-reads
returns-clause-reads c =
    rw c.count_before.ensures
    (moved (exp c.args.levels c.args.fixities.now) c.args.all.now c.exp-made.new.lexemes.rest.now c.args.taken
    c.exp-made.result (rw c.behind.ensures at c.exp-made.ensures.reads))
