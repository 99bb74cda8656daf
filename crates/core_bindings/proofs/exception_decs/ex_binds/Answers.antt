use Rattle.std.proofs.Common.{◌≡◌, true, None}
use Rattle.grammars.specs.Grammar.{begins, head_or}
use Rattle.phrase_reading.specs.Words.{is}
use Rattle.core_types.specs.Types.{ty}
use Rattle.core_bindings.specs.Bindings.{ex_bind}
use Rattle.sml_lexer.specs.declared.words.Word.TheVariants as w
use Rattle.phrase_reading.proofs.Steps.{round_less}
use Rattle.core_bindings.proofs.exception_decs.ex_binds.Goals as goal

pub loop-alloc-smaller : goal.loop-alloc-smaller
loop-alloc-smaller c =
    let rest = c.loop-alloc.lexemes.rest.now in
    let sees : begins (is w.And) (head_or rest None) ≡ true = cc in
    let whole = rw c.take.ensures at c.in_ok-next.ensures in
    round_less (is w.And) (ex_bind (ty c.args.levels)) c.in_ok-next.next rest c.ex_bind.new.lexemes.rest.now sees whole
