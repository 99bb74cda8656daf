-- What the law says.
use Rattle.std.specs.Prelude.{◌≡◌, ◌<◌, ◌^◌, ℕ, true, List, Option, length, All}
use Rattle.grammars.specs.Grammar.{Phrase}
use Rattle.sml_lexer.specs.declared.lexeme.Lexeme.{Lexeme}
use Rattle.sml_trees.specs.declared.full_ty.FullTy.{FullTy}
use Rattle.phrase_reading.specs.declared.tall.Tall.{Tall}
use Rattle.core_types.specs.Types.{ty}
use Rattle.bare_forms.specs.Types.{bare_ty}
use Rattle.lexeme_laws.specs.Limits.{IsWithinLimits}
use Rattle.fitting_names.specs.Names.{names_ty}

-- the names of each type that is read of lexemes within their limits fit
abbrev pub TypesFit : Type 0
TypesFit =
    (most : ℕ) (lexemes : List Lexeme) (next : Option Lexeme) (made : Tall FullTy)
    → All (λ x. IsWithinLimits x.kind) lexemes
    → length lexemes < 2 ^ 62 → Phrase (ty most) lexemes next made → names_ty (bare_ty made.tree) ≡ true
