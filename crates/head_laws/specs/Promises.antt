-- What the law says.
use Rattle.std.specs.Prelude.{ℕ, Some, List, ◌↔◌}
use Rattle.sml_lexer.specs.declared.lexeme.Lexeme.{Lexeme}
use Rattle.sml_trees.specs.declared.full_exp.FullHead.{FullHead}
use Rattle.infix_names.specs.Fixities.{Fixities}
use Rattle.clause_heads.specs.declared.heads.Wanted.{Wanted}
use Rattle.head_laws.specs.Forms.{IsTree, IsHead, IsAsked, AsksForSome, IsBehindHead, head}

-- Before a `:` or a `=` exactly those lexemes are read as a head which are of one of the three forms, with the tree
-- that the form says, and are what the clauses before ask for.
abbrev pub HeadsAreOfTheForms : Type 0
HeadsAreOfTheForms =
    (most : ℕ) (infixes : Fixities) (wanted : Wanted) (lexemes : List Lexeme) (next : Lexeme) (made : FullHead)
    → AsksForSome wanted → IsBehindHead next
    → IsTree (head most infixes wanted) lexemes (Some next) made
    ↔ (IsHead most infixes lexemes (Some next) made × IsAsked wanted made)
