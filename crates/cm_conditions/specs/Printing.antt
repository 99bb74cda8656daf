-- The text that a condition is printed as. Its tree keeps each parenthesis that was written, so that none is put in.
use Rattle.std.specs.Prelude.{ℕ, ◌==◌, Bool, not, List, [], ◌∷◌, ◌++◌, codes}
use Rattle.std.specs.Fmt.{signed_decimal}
use Rattle.std.specs.List.{flat_map}
use Rattle.cm_base.specs.declared.record.ModName.{ModName}
use Rattle.cm_base.specs.declared.record.Namespace.{Namespace}
use Rattle.cm_base.specs.declared.record.Namespace.TheVariants as space
use Rattle.cm_conditions.specs.declared.cond.Cond.{Cond}
use Rattle.cm_conditions.specs.declared.cond.Cond.TheOpen.{Cond-F, Step-F}
use Rattle.cm_conditions.specs.declared.cond.Cond.TheFolds.{fold-Cond, fold-Step}
use Rattle.cm_conditions.specs.declared.cond.Step.{Step}
use Rattle.cm_conditions.specs.declared.lexeme.Operator.{Operator}
use Rattle.cm_conditions.specs.declared.lexeme.Operator.TheVariants as o

-- the bytes of a line
abbrev pub is_in_line : ℕ → Bool
is_in_line byte = not (byte == 10)

-- the word of a name space
unfoldable pub space_word : Namespace → List ℕ
space_word space.Structure = codes "structure"
space_word space.Signature = codes "signature"
space_word space.Functor = codes "functor"
space_word space.Funsig = codes "funsig"

-- an operator, with a space on each side
unfoldable pub operator_text : Operator → List ℕ
operator_text o.Multiply = codes " * "
operator_text o.Div = codes " div "
operator_text o.Mod = codes " mod "
operator_text o.Add = codes " + "
operator_text o.Subtract = codes " - "
operator_text o.Equal = codes " = "
operator_text o.Unequal = codes " <> "
operator_text o.Less = codes " < "
operator_text o.LessEqual = codes " <= "
operator_text o.Greater = codes " > "
operator_text o.GreaterEqual = codes " >= "
operator_text o.Andalso = codes " andalso "
operator_text o.Orelse = codes " orelse "

-- what stands before the name in `defined`, and before what `not` negates
unfoldable pub defined_text : List ℕ
defined_text = codes "defined("

unfoldable pub not_text : List ℕ
not_text = codes "not "

-- a module behind its name space
abbrev pub module_text : ModName → List ℕ
module_text wanted = space_word wanted.space ++ (32 ∷ wanted.name)

-- a condition whose parts are printed so
abbrev pub text_level : Cond-F (List ℕ) (List ℕ) → List ℕ
text_level (Cond-F.Number n) = signed_decimal n
text_level (Cond-F.Name name) = name
text_level (Cond-F.Defined name) = defined_text ++ (name ++ 41 ∷ [])
text_level (Cond-F.Provided wanted) = defined_text ++ (module_text wanted ++ 41 ∷ [])
text_level (Cond-F.Parens inner) = 40 ∷ (inner ++ 41 ∷ [])
text_level (Cond-F.Not inner) = not_text ++ inner
text_level (Cond-F.Chain first steps) = first ++ flat_map (λ step. step) steps

-- an operator whose right side is printed so
abbrev pub step_level : Step-F (List ℕ) (List ℕ) → List ℕ
step_level (Step-F.Multiply right) = operator_text o.Multiply ++ right
step_level (Step-F.Div right) = operator_text o.Div ++ right
step_level (Step-F.Mod right) = operator_text o.Mod ++ right
step_level (Step-F.Add right) = operator_text o.Add ++ right
step_level (Step-F.Subtract right) = operator_text o.Subtract ++ right
step_level (Step-F.Equal right) = operator_text o.Equal ++ right
step_level (Step-F.Unequal right) = operator_text o.Unequal ++ right
step_level (Step-F.Less right) = operator_text o.Less ++ right
step_level (Step-F.LessEqual right) = operator_text o.LessEqual ++ right
step_level (Step-F.Greater right) = operator_text o.Greater ++ right
step_level (Step-F.GreaterEqual right) = operator_text o.GreaterEqual ++ right
step_level (Step-F.Andalso right) = operator_text o.Andalso ++ right
step_level (Step-F.Orelse right) = operator_text o.Orelse ++ right

-- the text of a condition
unfoldable pub printed : Cond → List ℕ
printed cond = fold-Cond (List ℕ) (List ℕ) text_level step_level cond

-- the text of an operator and its right side
unfoldable pub printed_step : Step → List ℕ
printed_step step = fold-Step (List ℕ) (List ℕ) text_level step_level step
