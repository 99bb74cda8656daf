use Rattle.std.proofs.Common.{◌≡◌, ◌-◌, true, None}
use Rattle.grammars.specs.Grammar.{begins, head_or}
use Rattle.phrase_reading.specs.Words.{is}
use Rattle.core_types.specs.Types.{ty}
use Rattle.sml_lexer.specs.declared.words.Word.TheVariants as w
use Rattle.phrase_reading.proofs.Steps.{round_less}
use Rattle.signature_parser.specs.Signatures.{where_behind}
use Rattle.signature_parser.proofs.wheres.wheres.Goals as goal

pub loop-left-smaller : goal.loop-left-smaller
loop-left-smaller c =
    let rest = c.loop-left.lexemes.rest.now in
    let sees : begins (is w.Where) (head_or rest None) ≡ true = cc in
    let whole = rw c.take.ensures at c.in_ok-left.ensures in
    round_less (is w.Where) (where_behind c.args.levels (ty (c.args.levels - 1)) c.args.place c.loop-left.left.made) c.in_ok-left.left rest c.where_behind.new.lexemes.rest.now sees whole
