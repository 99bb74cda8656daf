use Rattle.std.proofs.Common.{◌≡◌, true, None}
use Rattle.grammars.specs.Grammar.{begins, head_or}
use Rattle.phrase_reading.specs.Words.{is}
use Rattle.core_types.specs.Types.{ty}
use Rattle.sml_lexer.specs.declared.words.Word.TheVariants as w
use Rattle.phrase_reading.proofs.Steps.{round_less}
use Rattle.signature_parser.specs.Signatures.{and_type}
use Rattle.signature_parser.proofs.where_types.where_types_from.Goals as goal

pub loop-found-smaller : goal.loop-found-smaller
loop-found-smaller c =
    let rest = c.loop-found.lexemes.rest.now in
    let sees : begins (is w.And) (head_or rest None) ≡ true = cc in
    let whole = rw c.take.ensures at c.in_ok-found.ensures in
    round_less (is w.And) (and_type (ty c.args.levels) c.loop-found.found.made) c.in_ok-found.found rest c.and_type.new.lexemes.rest.now sees whole
