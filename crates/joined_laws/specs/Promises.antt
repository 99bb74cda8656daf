-- What the laws say.
use Rattle.std.specs.Prelude.{ℕ, List, Option, ◌↔◌}
use Rattle.sml_lexer.specs.declared.lexeme.Lexeme.{Lexeme}
use Rattle.sml_lexer.specs.declared.words.Word.{Word}
use Rattle.sml_trees.specs.declared.full_sig.FullSigBind.{FullSigBind}
use Rattle.sml_trees.specs.declared.full_sig.FullSigExp.{FullSigExp}
use Rattle.sml_trees.specs.declared.full_sig.FullSpec.{FullSpec}
use Rattle.sml_trees.specs.declared.name.At.{At}
use Rattle.signature_parser.specs.Joined.{alone, bindings}
use Rattle.signature_parser.specs.SigLevels.{sig_level}
use Rattle.signature_parser.specs.Signatures.{sig_bind}
use Rattle.signature_parser.specs.Specifications.{include_spec}
use Rattle.head_laws.specs.Forms.{IsTree}
use Rattle.joined_laws.specs.Forms.{AreJoined, IsSigexp, IsSigBind, IsInclude, IsNoWhere, IsNoAnd, IsNoSigid}

-- Where no `and` stands behind, exactly those lexemes are read as a signature expression which are of one of the three
-- forms, with the tree that the form says, and behind which no `where` stands.
abbrev pub SignaturesAreOfTheForms : Type 0
SignaturesAreOfTheForms =
    (most : ℕ) (lexemes : List Lexeme) (next : Option Lexeme) (sig : FullSigExp) → IsNoAnd next
    → IsTree (alone (sig_level most).sig) lexemes next sig ↔ (IsSigexp most lexemes next sig × IsNoWhere next)

-- Exactly those lexemes are read as bindings of signatures which are bindings with an `and` between each two, with the
-- trees that these say, and behind which neither an `and` nor a `where` stands. The mark is the one between a name and
-- its signature.
abbrev pub BindingsAreJoined : Type 0
BindingsAreJoined =
    (most : ℕ) (mark : Word) (lexemes : List Lexeme) (next : Option Lexeme) (binds : List FullSigBind)
    → IsTree (bindings (sig_bind (sig_level most).sig mark)) lexemes next binds
    ↔ (AreJoined (IsSigBind most mark) lexemes next binds × IsNoAnd next × IsNoWhere next)

-- Where neither an `and`, nor a `where`, nor a name of a signature stands behind, exactly those lexemes are read behind
-- `include` which are names of signatures, one or more, or another signature expression, with the tree of the form.
abbrev pub IncludesAreOfTheForms : Type 0
IncludesAreOfTheForms =
    (most : ℕ) (place : At) (lexemes : List Lexeme) (next : Option Lexeme) (spec : FullSpec) → IsNoAnd next
    → IsNoWhere next → IsNoSigid next
    → IsTree (include_spec most (sig_level most) place) lexemes next spec ↔ IsInclude most place lexemes next spec
