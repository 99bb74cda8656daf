-- Conditions of descriptions: what their texts say, and whether they ask for modules.
use Rattle.std.specs.Prelude.{ℕ, Bool, true, false, ◌||◌, Option, Some, None, List, [], ◌∷◌}
use Rattle.grammars.specs.Grammar.{End}
use Rattle.grammars.specs.Reading.{Out, read}
use Rattle.cm_conditions.specs.Grammar.{condition}
use Rattle.cm_conditions.specs.Lexemes.{lexemes_of}
use Rattle.std.specs.List.{list_any}
use Rattle.cm_conditions.specs.declared.cond.Cond.{Cond}
use Rattle.cm_conditions.specs.declared.cond.Cond.TheOpen.{Cond-F, Step-F}
use Rattle.cm_conditions.specs.declared.cond.Cond.TheFolds.{fold-Cond, fold-Step}
use Rattle.cm_conditions.specs.declared.cond.Step.{Step}
use Rattle.cm_conditions.specs.declared.lexeme.Lexeme.{Lexeme}

abbrev pub whole_of : Out Lexeme Cond → Option Cond
whole_of (Out.out (End.whole cond) []) = Some cond
whole_of (Out.out (End.whole cond) (x ∷ xs)) = None
whole_of (Out.out End.refused rest) = None
whole_of (Out.out End.deep rest) = None

-- the condition that a whole text is, if it is one
unfoldable pub condition_of : List ℕ → Option Cond
condition_of text = whole_of (read (condition 128) (lexemes_of text))

-- whether one of these does
abbrev pub some : List Bool → Bool
some asks = list_any (λ ask. ask) asks

abbrev pub names_level : Cond-F Bool Bool → Bool
names_level (Cond-F.Number n) = false
names_level (Cond-F.Name name) = false
names_level (Cond-F.Defined name) = false
names_level (Cond-F.Provided name) = true
names_level (Cond-F.Parens inner) = inner
names_level (Cond-F.Not inner) = inner
names_level (Cond-F.Chain first steps) = first || some steps

-- an operator asks what its right side asks
abbrev pub step_level : Step-F Bool Bool → Bool
step_level (Step-F.Multiply right) = right
step_level (Step-F.Div right) = right
step_level (Step-F.Mod right) = right
step_level (Step-F.Add right) = right
step_level (Step-F.Subtract right) = right
step_level (Step-F.Equal right) = right
step_level (Step-F.Unequal right) = right
step_level (Step-F.Less right) = right
step_level (Step-F.LessEqual right) = right
step_level (Step-F.Greater right) = right
step_level (Step-F.GreaterEqual right) = right
step_level (Step-F.Andalso right) = right
step_level (Step-F.Orelse right) = right

-- whether a condition asks for a module, by `defined(NS NAME)`
unfoldable pub names_module : Cond → Bool
names_module cond = fold-Cond Bool Bool names_level step_level cond

unfoldable pub step_names_module : Step → Bool
step_names_module step = fold-Step Bool Bool names_level step_level step
