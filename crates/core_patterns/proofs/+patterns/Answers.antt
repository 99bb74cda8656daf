use Rattle.std.proofs.Common.{◌≡◌, ◌-◌, true, None}
use Rattle.grammars.specs.Grammar.{begins, head_or}
use Rattle.phrase_reading.specs.Words.{is}
use Rattle.core_types.specs.Types.{ty}
use Rattle.core_patterns.specs.Patterns.{pat, field}
use Rattle.sml_lexer.specs.declared.words.Word.TheVariants as w
use Rattle.phrase_reading.proofs.Steps.{round_less}
use Rattle.core_patterns.proofs.+patterns.Goals as goal

pub atpats::patterns-loop-alloc-smaller : goal.atpats::patterns-loop-alloc-smaller
atpats::patterns-loop-alloc-smaller t c =
    let rest = c.loop-alloc.lexemes.rest.now in
    let sees : begins (is w.Comma) (head_or rest None) ≡ true = cc in
    let whole = rw c.take.ensures at c.in_ok-next.ensures.reads in
    round_less (is w.Comma) (pat c.args.fixities.now (c.args.levels - 1)) c.in_ok-next.next rest c.pat.new.lexemes.rest.now sees whole

pub pat_fields::fields-loop-alloc-smaller : goal.pat_fields::fields-loop-alloc-smaller
pat_fields::fields-loop-alloc-smaller t c =
    let rest = c.loop-alloc.lexemes.rest.now in
    let sees : begins (is w.Comma) (head_or rest None) ≡ true = cc in
    let whole = rw c.take.ensures at c.in_ok-next.ensures.reads in
    round_less (is w.Comma) (field (ty (c.args.levels - 1)) (pat c.args.fixities.now (c.args.levels - 1))) c.in_ok-next.next rest c.field.new.lexemes.rest.now sees whole
