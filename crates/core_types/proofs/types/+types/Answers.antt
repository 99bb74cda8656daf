use Rattle.std.proofs.Common.{◌≡◌, ◌-◌, true, None}
use Rattle.grammars.specs.Grammar.{begins, head_or}
use Rattle.phrase_reading.specs.Words.{is, is_star}
use Rattle.core_types.specs.Types.{ty, ty_level, field}
use Rattle.sml_lexer.specs.declared.words.Word.TheVariants as w
use Rattle.phrase_reading.proofs.Steps.{round_less}
use Rattle.core_types.proofs.types.+types.Goals as goal

pub types-loop-alloc-smaller : goal.types-loop-alloc-smaller
types-loop-alloc-smaller t c =
    let rest = c.loop-alloc.lexemes.rest.now in
    let sees : begins (is w.Comma) (head_or rest None) ≡ true = cc in
    let whole = rw c.take.ensures at c.in_ok-next.ensures.reads in
    round_less (is w.Comma) (ty (c.args.levels - 1)) c.in_ok-next.next rest c.ty.new.lexemes.rest.now sees whole

pub fields-loop-alloc-smaller : goal.fields-loop-alloc-smaller
fields-loop-alloc-smaller t c =
    let rest = c.loop-alloc.lexemes.rest.now in
    let sees : begins (is w.Comma) (head_or rest None) ≡ true = cc in
    let whole = rw c.take.ensures at c.in_ok-next.ensures.reads in
    round_less (is w.Comma) (field (ty (c.args.levels - 1))) c.in_ok-next.next rest c.field.new.lexemes.rest.now sees whole

pub starred-loop-alloc-smaller : goal.starred-loop-alloc-smaller
starred-loop-alloc-smaller t c =
    let rest = c.loop-alloc.lexemes.rest.now in
    let sees : begins (is_star) (head_or rest None) ≡ true = cc in
    let whole = rw c.take.ensures at c.in_ok-next.ensures.reads in
    round_less (is_star) ((ty_level (c.args.levels - 1)).part) c.in_ok-next.next rest c.part.new.lexemes.rest.now sees whole
