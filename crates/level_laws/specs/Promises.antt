-- What the laws say.
use Rattle.std.specs.Prelude.{◌≡◌, ◌≤◌, ℕ, List, Option}
use Rattle.grammars.specs.Grammar.{Phrase}
use Rattle.sml_lexer.specs.declared.lexeme.Lexeme.{Lexeme}
use Rattle.core_patterns.specs.Patterns.{pat}
use Rattle.core_bindings.specs.Decs.{Decs}
use Rattle.core_expressions.specs.Levels.{exp}
use Rattle.core_types.specs.Types.{ty}
use Rattle.module_parser.specs.Units.{topdecs, IsUnit}
use Rattle.sml_trees.specs.declared.full_unit.FullUnit.{FullUnit}
use Rattle.infix_names.specs.Fixities.{Fixities}
use Rattle.phrase_reading.specs.Words.{g}
use Rattle.phrase_reading.specs.declared.tall.Tall.{Tall}
use Rattle.level_laws.specs.Levels.{all_levels, ty_levels, pat_levels, exp_levels, topdec_levels, unit_levels}

-- a tree with its height: that is the number of its levels, and these are no more than so many
pub record IsMeasured {A : Type 0} (levels : A → ℕ) (most : ℕ) (made : Tall A) : Type 0 where
  pub exact : made.height ≡ levels made.tree
  pub low : made.height ≤ most

-- declarations with the height of the highest
pub record AreMeasured {A : Type 0} (levels : A → ℕ) (most : ℕ) (found : Decs A) : Type 0 where
  pub exact : found.height ≡ all_levels levels found.decs
  pub low : found.height ≤ most

-- so is every phrase of a grammar
abbrev pub Measures : {A : Type 0} → (A → ℕ) → ℕ → g (Tall A) → Type 0
Measures {A} levels most grammar =
    (lexemes : List Lexeme) (next : Option Lexeme) (made : Tall A) → Phrase grammar lexemes next made
    → IsMeasured levels most made

-- a type that is read nests as many levels as is said with it, and no more than it may
abbrev pub TypesHaveTheirLevels : Type 0
TypesHaveTheirLevels = (most : ℕ) → Measures ty_levels most (ty most)

-- .. and so does a pattern, whatever is infix
abbrev pub PatternsHaveTheirLevels : Type 0
PatternsHaveTheirLevels = (infixes : Fixities) (most : ℕ) → Measures pat_levels most (pat infixes most)

-- .. and an expression
abbrev pub ExpressionsHaveTheirLevels : Type 0
ExpressionsHaveTheirLevels = (infixes : Fixities) (most : ℕ) → Measures exp_levels most (exp most infixes)

-- .. and the declarations of a unit, which nest at most 128 levels
abbrev pub UnitsHaveTheirLevels : Type 0
UnitsHaveTheirLevels = Measures (all_levels topdec_levels) 128 topdecs

-- so a text that is a unit nests at most 128 levels
abbrev pub UnitsNestAtMost128 : Type 0
UnitsNestAtMost128 = (file source : List ℕ) (unit : FullUnit) → IsUnit file source unit → unit_levels unit ≤ 128
