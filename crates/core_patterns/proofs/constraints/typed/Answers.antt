use Rattle.std.proofs.Common.{◌≡◌, ◌-◌, true, None}
use Rattle.grammars.specs.Grammar.{begins, head_or}
use Rattle.phrase_reading.specs.Words.{is}
use Rattle.core_types.specs.Types.{ty}
use Rattle.core_patterns.specs.Patterns.{constrained}
use Rattle.sml_lexer.specs.declared.words.Word.TheVariants as w
use Rattle.phrase_reading.proofs.Steps.{round_less}
use Rattle.core_patterns.proofs.constraints.typed.Goals as goal

pub loop-alloc-smaller : goal.loop-alloc-smaller
loop-alloc-smaller c =
    let rest = c.loop-alloc.lexemes.rest.now in
    let sees : begins (is w.Colon) (head_or rest None) ≡ true = cc in
    let whole = rw c.take.ensures at c.in_ok-left.ensures.reads in
    round_less (is w.Colon) (constrained c.args.levels (ty (c.args.levels - 1)) c.args.place c.loop-alloc.left)
    c.in_ok-left.left rest c.constrained.new.lexemes.rest.now sees whole
