use Rattle.std.proofs.Common.{◌≡◌, ◌+◌, true, None, length, ◌∙◌, sym}
use Rattle.grammars.specs.Grammar.{begins, head_or}
use Rattle.clause_heads.specs.Heads.{takes_more}
use Rattle.clause_heads.proofs.HeadSteps.{argument_less}
use Rattle.clause_heads.proofs.head.arguments_from.Goals as goal

pub loop-found-smaller : goal.loop-found-smaller
loop-found-smaller c =
    let rest = c.loop-found.lexemes.rest.now in
    let args = c.args.before + length c.loop-found.found.tree in
    let sees : begins (takes_more c.args.fixities.now c.args.wanted.now args) (head_or rest None) ≡ true =
    sym c.in_ok-sees_argument.ensures ∙ c.if-branch.true in
    argument_less c.args.levels c.args.fixities.now c.args.wanted.now args c.in_ok-next.next rest c.argument.new.lexemes.rest.now sees c.in_ok-next.ensures
