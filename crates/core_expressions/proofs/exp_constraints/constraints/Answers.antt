use Rattle.std.proofs.Common.{◌≡◌, true, None}
use Rattle.grammars.specs.Grammar.{begins, head_or}
use Rattle.core_expressions.specs.Expressions.{constraint}
use Rattle.core_expressions.specs.Levels.{below}
use Rattle.phrase_reading.specs.Words.{is}
use Rattle.sml_lexer.specs.declared.words.Word.TheVariants as w
use Rattle.phrase_reading.proofs.Steps.{round_less}
use Rattle.core_expressions.proofs.exp_constraints.constraints.Goals as goal

pub loop-alloc-smaller : goal.loop-alloc-smaller
loop-alloc-smaller c =
    let rest = c.loop-alloc.lexemes.rest.now in
    let sees : begins (is w.Colon) (head_or rest None) ≡ true = cc in
    let whole = rw c.take.ensures at c.in_ok-left.ensures in
    round_less (is w.Colon) (constraint c.args.levels (below c.args.levels) c.args.at c.loop-alloc.left)
    c.in_ok-left.left rest c.constraint.new.lexemes.rest.now sees whole
