-- What holds of descriptions as texts.
use Rattle.std.proofs.Common.{◌≡◌, None}
use Rattle.grammars.specs.Grammar.{End}
use Rattle.grammars.proofs.Lawful.{lawful}
use Rattle.grammars.proofs.Texts.{unique}
use Rattle.cm_lexer.specs.Tokens.{scan_of}
use Rattle.cm_description.specs.Grammar.{description}
use Rattle.cm_description.specs.Laws.{AreLawful, HasOneDescription}
use Rattle.cm_description.specs.declared.description.Description.{Description}

pub descriptions_lawful : AreLawful
descriptions_lawful file text = lawful (description file text)

value_of : {d e : Description} → End.whole d ≡ End.whole e → d ≡ e
value_of h = cc

pub one_description : HasOneDescription
one_description file text d e p q =
    value_of (unique (description file text) (End.whole d) (End.whole e) (scan_of text).tokens None p.phrase q.phrase)
