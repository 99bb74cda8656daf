-- What the laws say.
use Rattle.std.specs.Prelude.{ℕ, List, Option}
use Rattle.grammars.specs.Grammar.{Phrase}
use Rattle.sml_lexer.specs.declared.lexeme.Lexeme.{Lexeme}
use Rattle.sml_trees.specs.declared.full_exp.FullFunBind.{FullFunBind}
use Rattle.sml_trees.specs.declared.full_exp.FullHead.{FullHead}
use Rattle.infix_names.specs.Fixities.{Fixities}
use Rattle.phrase_reading.specs.declared.tall.Tall.{Tall}
use Rattle.clause_heads.specs.Heads.{head_after}
use Rattle.clause_heads.specs.declared.heads.Wanted.{Wanted}
use Rattle.core_expressions.specs.Clauses.{function}
use Rattle.core_expressions.specs.Levels.{level}
use Rattle.clause_laws.specs.Forms.{IsHead, IsWanted, IsFunction}

-- a head that is read, behind its first lexeme, has one of the three forms and is one that is asked for
abbrev pub HeadsHaveTheirForms : Type 0
HeadsHaveTheirForms =
    (most : ℕ) (infixes : Fixities) (wanted : Wanted) (first : Lexeme) (lexemes : List Lexeme) (next : Option Lexeme)
    (made : Tall FullHead) → Phrase (head_after most infixes wanted first) lexemes next made
    → IsHead infixes made.tree × IsWanted wanted made.tree

-- the clauses of a function that is read
abbrev pub ClausesAreOfOneFunction : Type 0
ClausesAreOfOneFunction =
    (most : ℕ) (infixes : Fixities) (lexemes : List Lexeme) (next : Option Lexeme) (made : Tall FullFunBind)
    → Phrase (function most (level most) infixes) lexemes next made → IsFunction infixes made.tree
