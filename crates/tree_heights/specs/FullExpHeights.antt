-- The heights of what expressions and declarations of the core become.
use Rattle.std.specs.Prelude.{ℕ, suc, max, List, [], ◌∷◌, length, map, Option, Some, None}
use Rattle.sml_trees.specs.declared.full_ty.FullTy.{FullTy}
use Rattle.sml_trees.specs.declared.full_pat.FullPat.{FullPat}
use Rattle.sml_trees.specs.declared.full_exp.FullHead.{FullHead}
use Rattle.sml_trees.specs.declared.full_exp.FullHead.TheVariants as head
use Rattle.sml_trees.specs.declared.full_exp.FullDec.{FullDec}
use Rattle.sml_trees.specs.declared.full_exp.FullExp.{FullExp}
use Rattle.sml_trees.specs.declared.full_exp.FullExpItem.{FullExpItem}
use Rattle.sml_trees.specs.declared.full_exp.FullClause.{FullClause, out-FullClause}
use Rattle.sml_trees.specs.declared.full_exp.FullExpField.{FullExpField}
use Rattle.sml_trees.specs.declared.full_exp.FullFunBind.{FullFunBind}
use Rattle.sml_trees.specs.declared.full_exp.FullRule.{FullRule}
use Rattle.sml_trees.specs.declared.full_exp.FullValBind.{FullValBind}
use Rattle.bare_forms.specs.declared.placed.PlacedExp.{PlacedExp}
use Rattle.bare_forms.specs.Runs.{Part}
use Rattle.bare_forms.specs.RunValues.{part_value}
use Rattle.bare_forms.specs.Nodes.{clause_rule}
use Rattle.bare_forms.specs.Expressions.{bare_dec, bare_exp, bare_item, bare_clause, bare_field, bare_fun_bind, bare_rule, bare_val_bind}
use Rattle.tree_heights.specs.declared.height_node.RunHeight.{RunHeight}
use Rattle.tree_heights.specs.Heights.{highest, exp_height, dec_height, exp_field_height, rule_height}
use Rattle.tree_heights.specs.NodeHeights.{case_height, curried_height, subject_height}
use Rattle.tree_heights.specs.FullHeights.{full_ty, height_of_pat}

-- ---- expressions

abbrev pub exp_value : PlacedExp → RunHeight
exp_value p = record { height = exp_height p.exp }

abbrev pub placed_height : PlacedExp → ℕ
placed_height p = exp_height p.exp

unfoldable pub full_exp : FullExp → ℕ
full_exp e = exp_height (bare_exp e).exp

abbrev pub run_exp : FullExp → RunHeight
run_exp e = record { height = full_exp e }

unfoldable pub full_item : FullExpItem → Part RunHeight
full_item item = part_value exp_value (bare_item item)

unfoldable pub full_field : FullExpField → ℕ
full_field field = exp_field_height (bare_field field)

unfoldable pub full_rule : FullRule → ℕ
full_rule each = rule_height (bare_rule each)

-- ---- functions

-- the two arguments of an infix name
abbrev pub infix_height : ℕ → ℕ → ℕ
infix_height left right = suc (max left right)

abbrev pub head_heights : FullHead → List ℕ
head_heights (head.Prefix name args) = map height_of_pat args
head_heights (head.Infix left name right) = infix_height (height_of_pat left) (height_of_pat right) ∷ []
head_heights (head.ParenInfix left name right args) =
    infix_height (height_of_pat left) (height_of_pat right) ∷ map height_of_pat args

-- the arguments of a clause, as one pattern
abbrev pub args_height : List ℕ → ℕ
args_height [] = 1
args_height (height ∷ []) = height
args_height (height ∷ other ∷ others) = suc (highest (height ∷ other ∷ others))

-- `exp : ty`
abbrev pub result_height : Option FullTy → ℕ → ℕ
result_height None body = body
result_height (Some ty) body = suc (max body (full_ty ty))

unfoldable pub full_clause : FullClause → ℕ
full_clause clause = rule_height (clause_rule (bare_clause clause))

-- a function whose first clause has so many arguments, and which has these rules
abbrev pub fun_of_height : ℕ → ℕ → ℕ
fun_of_height count rules = max 1 (curried_height count (case_height (subject_height count) rules))

-- .. and one without clauses, which no source has
abbrev pub fun_height : List FullClause → ℕ
fun_height [] = 1
fun_height (clause ∷ clauses) =
    fun_of_height (length (head_heights (out-FullClause clause).head)) (highest (map full_clause (clause ∷ clauses)))

unfoldable pub full_fun_bind : FullFunBind → ℕ
full_fun_bind bind = rule_height (bare_fun_bind bind)

-- ---- declarations

unfoldable pub full_val_bind : FullValBind → ℕ
full_val_bind bind = rule_height (bare_val_bind bind).rule

unfoldable pub full_dec : FullDec → ℕ
full_dec dec = highest (map dec_height (bare_dec dec).decs)

-- declarations one after another, as one node
abbrev pub decs_height : List FullDec → ℕ
decs_height decs = suc (highest (map full_dec decs))
