-- The height of each phrase of the grammar of expressions is that of its tree, and within the limit, over phrases of
-- one level less of which the same holds.
use Rattle.std.proofs.Common.{◌≡◌, ℕ, suc, ◌≤◌, max, List, [], Option, None, Some, Bool, true, false, sym, ap, ap₂, ◌∙◌, arith, add-one}
use Rattle.sml_lexer.specs.declared.lexeme.Lexeme.{Lexeme}
use Rattle.sml_lexer.specs.declared.lexeme.LexemeKind.{LexemeKind}
use Rattle.sml_lexer.specs.declared.lexeme.LexemeKind.TheVariants as k
use Rattle.sml_trees.specs.declared.name.At.{At}
use Rattle.sml_trees.specs.declared.name.Name.{Name}
use Rattle.sml_trees.specs.declared.full_pat.Constant.TheVariants as c
use Rattle.sml_trees.specs.declared.full_pat.Fixity.{Fixity}
use Rattle.sml_trees.specs.declared.full_exp.FullExp.{FullExp}
use Rattle.sml_trees.specs.declared.full_exp.FullExp.TheVariants as e
use Rattle.sml_trees.specs.declared.full_exp.FullExpItem.TheVariants as item
use Rattle.sml_trees.specs.declared.full_exp.FullRule.{FullRule}
use Rattle.infix_names.specs.Fixities.{Fixities, fixity_of}
use Rattle.core_expressions.specs.Level.{Level}
use Rattle.core_expressions.specs.Expressions.{op_exp, exps, exp_list, field, fields, record_fields, record_exp, several, tuple_exp, sequence_exp, paren_exp, parens_from, parens, bracket_items, bracket, let_exp, atexp_word, atexp_kind, atexp_of, atom, behind_operator, step_by, step_with, step, steps, whole_run, run_with, run_from, constraint, constraints, typed_of, exp_behind, rule, rules_of, rules_behind, raise_exp, if_exp, while_exp, case_exp, fn_of, prefix_word, operand_by, operand_after, side, beside, chained, conjunction_after, disjunction_after, handle_exp, handled, operand_of, conjunction_of, exp_of}
use Rattle.expression_parts.specs.declared.runs.Run.{Run}
use Rattle.expression_parts.specs.declared.chain.Chain.{Chain}
use Rattle.expression_parts.specs.declared.chain.Chain.TheVariants as chain
use Rattle.expression_parts.specs.ExpStarts.{infix_name, starts_prefix}
use Rattle.expression_parts.specs.ExpNodes.{link, run_of, with_atom, with_operator}
use Rattle.phrase_reading.specs.Sized.{one}
use Rattle.phrase_reading.specs.Words.{at, named, word}
use Rattle.sml_lexer.specs.Words.{word_of}
use Rattle.phrase_reading.specs.declared.tall.Tall.{Tall}
use Rattle.sml_lexer.specs.declared.words.Word.{Word}
use Rattle.sml_lexer.specs.declared.words.Word.TheVariants as w
use Rattle.level_laws.specs.Levels.{all_levels, dec_levels, exp_levels, exp_item_levels, exp_field_levels, rule_levels}
use Rattle.level_laws.specs.Promises.{IsMeasured, AreMeasured}
use Rattle.level_laws.proofs.Keeping.{Keeps, keep_pure, keep_refuse, keep_bind, keep_then, keep_on, keep_within, keep_many, keep_taken, leaf_is, over_is, over_two_is, part_is, lowered, one_is, more_is, all-one, all-more, further_keeps, two_is}
use Rattle.level_laws.proofs.ExpForms.{exp-Constant, exp-Long, exp-Record, exp-Unit, exp-Tuple, exp-Sequence, exp-Paren, exp-List, exp-Let, exp-Run, exp-Typed, exp-AndAlso, exp-OrElse, exp-Handle, exp-Raise, exp-If, exp-While, exp-Case, exp-Fn, item-Atom, item-Operator, exp_field-is, rule-is}
use Rattle.level_laws.proofs.TyLevels.{Ty}
use Rattle.level_laws.proofs.PatLevels.{Pat}

-- an expression of at most so many levels
abbrev pub Exp : ℕ → Tall FullExp → Type 0
Exp most = IsMeasured exp_levels most

-- several of them
abbrev pub Exps : ℕ → Tall (List FullExp) → Type 0
Exps most = IsMeasured (all_levels exp_levels) most

abbrev pub Rules : ℕ → Tall (List FullRule) → Type 0
Rules most = IsMeasured (all_levels rule_levels) most

-- all phrases of the record are measured so
pub record LevelIs (most : ℕ) (level : Level) : Type 0 where
  pub ty : Keeps level.ty (Ty most)
  pub pat_after : (fs : Fixities) (x : Lexeme) → Keeps (level.pat_after fs x) (Pat most)
  pub exp : (fs : Fixities) → Keeps (level.exp fs) (Exp most)
  pub conjunction : (fs : Fixities) → Keeps (level.conjunction fs) (Exp most)
  pub operand : (fs : Fixities) → Keeps (level.operand fs) (Exp most)
  pub atexp : (fs : Fixities) (x : Lexeme) → Keeps (level.atexp fs x) (Exp most)
  pub fn_exp : (fs : Fixities) → Keeps (level.fn_exp fs) (Exp most)
  pub decs : (fs : Fixities) → Keeps (level.decs fs) (AreMeasured dec_levels most)
  pub dec : (fs : Fixities) (x : Lexeme) → Keeps (level.dec fs x) (AreMeasured dec_levels most)

-- the parts of a run, of at most so many levels
record IsRun (most : ℕ) (run : Run) : Type 0 where
  exact : run.height ≡ all_levels exp_item_levels run.items
  low : run.height ≤ most

run_is : {most : ℕ} (first : Tall FullExp) → Exp most first → IsRun most (run_of first)
run_is first is = record {
  exact = is.exact ∙ sym (item-Atom first.tree) ∙ sym (all-one exp_item_levels (item.Atom first.tree));
  low = is.low;
}

atom_is : {most : ℕ} (run : Run) (next : Tall FullExp) → IsRun most run → Exp most next
    → IsRun most (with_atom run next)
atom_is run next so is = record {
  exact = ap₂ max so.exact (is.exact ∙ sym (item-Atom next.tree))
      ∙ sym (all-more exp_item_levels run.items (item.Atom next.tree));
  low = let low = so.low in let lower = is.low in omega arith;
}

operator_is : {most : ℕ} (run : Run) (called : Name) (f : Fixity) → IsRun most run
    → IsRun most (with_operator run called f)
operator_is run called f so = record {
  exact = so.exact ∙ sym (max-none (all_levels exp_item_levels run.items))
      ∙ ap (max (all_levels exp_item_levels run.items)) (sym (item-Operator called f))
      ∙ sym (all-more exp_item_levels run.items (item.Operator called f));
  low = so.low;
}
  where
    max-none : (n : ℕ) → max n 0 ≡ n
    max-none n = omega arith

-- over phrases of one level less
module _ (n : ℕ) (parts : Level) (it : LevelIs n parts) where
  exps_keep : (fs : Fixities) (mark : Word) (found : Tall (List FullExp)) → Exps n found
      → Keeps (exps parts fs mark found) (Exps n)
  exps_keep fs mark found is = further_keeps mark (it.exp fs) is

  list_keeps : (fs : Fixities) (mark : Word) → Keeps (exp_list parts fs mark) (Exps n)
  unfolding exp_list
  list_keeps fs mark = keep_bind (it.exp fs) (λ first is. exps_keep fs mark (one first) (one_is is))

  field_keeps : (fs : Fixities) → Keeps (field parts fs) (IsMeasured exp_field_levels n)
  unfolding field
  field_keeps fs =
      keep_then (λ name. keep_then (λ _. keep_bind (it.exp fs) (λ value is.
      keep_pure _ (part_is _ (exp_field-is name) is))))

  record_keeps : (fs : Fixities) (place : At) → Keeps (record_exp parts fs place) (Exp (suc n))
  unfolding record_exp record_fields
  record_keeps fs place =
      keep_on (λ _. keep_pure _ (leaf_is (e.Record [] place) (exp-Record [] place)))
      (keep_bind (field_keeps fs) (λ first is. keep_bind (further_keeps _ (field_keeps fs) (one_is is))
      (λ found are. keep_then (λ _. keep_pure _ (over_is _ (λ fields. exp-Record fields place) are)))))

  several_keep : (fs : Fixities) (mark : Word) (first : Tall FullExp) → Exp n first
      → Keeps (several parts fs mark first) (Exps n)
  unfolding several
  several_keep fs mark first is =
      keep_bind (it.exp fs) (λ second so. keep_bind (exps_keep fs mark _ (more_is (one_is is) so))
      (λ found are. keep_then (λ _. keep_pure found are)))

  parens_keep : (fs : Fixities) (place : At) → Keeps (parens parts fs place) (Exp (suc n))
  unfolding parens parens_from tuple_exp sequence_exp paren_exp
  parens_keep fs place =
      keep_on (λ _. keep_pure _ (leaf_is (e.Unit place) (exp-Unit place)))
      (keep_bind (it.exp fs) (λ first is. keep_on
      (λ _. keep_bind (several_keep fs w.Comma first is) (λ found are.
      keep_pure _ (over_is _ (λ parts. exp-Tuple parts place) are)))
      (keep_on (λ _. keep_bind (several_keep fs w.Semicolon first is) (λ found are.
      keep_pure _ (over_is _ (λ exps. exp-Sequence exps place) are)))
      (keep_then (λ _. keep_pure _ (over_is _ (λ inner. exp-Paren inner place) is))))))

  bracket_keeps : (fs : Fixities) (place : At) → Keeps (bracket parts fs place) (Exp (suc n))
  unfolding bracket bracket_items
  bracket_keeps fs place =
      keep_on (λ _. keep_pure _ (leaf_is (e.List [] place) (exp-List [] place)))
      (keep_bind (list_keeps fs w.Comma) (λ found are. keep_then (λ _.
      keep_pure _ (over_is _ (λ items. exp-List items place) are))))

  let_keeps : (fs : Fixities) (place : At) → Keeps (let_exp parts fs place) (Exp (suc n))
  unfolding let_exp
  let_keeps fs place =
      keep_bind (it.decs fs) (λ found are. keep_then (λ _. keep_bind (list_keeps found.fixities w.Semicolon) (λ body so.
      keep_then (λ _. keep_pure _ (record {
        exact = add-one (max found.height body.height) ∙ ap₂ (λ a b. suc (max a b)) are.exact so.exact
            ∙ sym (exp-Let found.decs body.tree place);
        low = let low = are.low in let lower = so.low in omega arith;
      })))))

  atexp_word_keeps : (fs : Fixities) (place : At) (found : Option Word)
      → Keeps (atexp_word parts fs place found) (Exp (suc n))
  unfolding op_exp
  atexp_word_keeps fs place (Some w.Op) = keep_taken _ _ (λ x parts. leaf_is _ (exp-Long _ place))
  atexp_word_keeps fs place (Some w.OpenBrace) = record_keeps fs place
  atexp_word_keeps fs place (Some w.Open) = parens_keep fs place
  atexp_word_keeps fs place (Some w.OpenBracket) = bracket_keeps fs place
  atexp_word_keeps fs place (Some w.Let) = let_keeps fs place
  atexp_word_keeps fs place _ = keep_refuse

  atexp_keeps : (fs : Fixities) (x : Lexeme) (kind : LexemeKind) → Keeps (atexp_kind parts fs x kind) (Exp (suc n))
  atexp_keeps fs x (k.Reserved text) = atexp_word_keeps fs (at x) (word_of text)
  atexp_keeps fs x (k.Name parts) = keep_pure _ (leaf_is _ (exp-Long _ (at x)))
  atexp_keeps fs x (k.TyVar text) = keep_refuse
  atexp_keeps fs x (k.Int value ok) = keep_pure _ (leaf_is _ (exp-Constant (c.Int value) (at x)))
  atexp_keeps fs x (k.Str text) = keep_pure _ (leaf_is _ (exp-Constant (c.Str text) (at x)))
  atexp_keeps fs x (k.Char byte) = keep_pure _ (leaf_is _ (exp-Constant (c.Char byte) (at x)))

  pub opened_atexp_keeps : (fs : Fixities) (x : Lexeme) → Keeps (atexp_of (suc n) parts fs x) (Exp (suc n))
  unfolding atexp_of
  opened_atexp_keeps fs x = keep_within (λ _. atexp_keeps fs x x.kind)

  atom_keeps : (fs : Fixities) (run : Run) (x : Lexeme) → IsRun n run → Keeps (atom parts fs run x) (IsRun n)
  unfolding atom
  atom_keeps fs run x is = keep_bind (it.atexp fs x) (λ next so. keep_pure _ (atom_is run next is so))

  by_fixity : (fs : Fixities) (run : Run) (x : Lexeme) (name : List ℕ) (found : Option Fixity) → IsRun n run
      → Keeps (step_by parts fs run x name found) (IsRun n)
  unfolding behind_operator
  by_fixity fs run x name None is = atom_keeps fs run x is
  by_fixity fs run x name (Some f) is =
      keep_then (λ y. atom_keeps fs (with_operator run (named x name) f) y (operator_is run (named x name) f is))

  by_name : (fs : Fixities) (run : Run) (x : Lexeme) (found : Option (List ℕ)) → IsRun n run
      → Keeps (step_with parts fs run x found) (IsRun n)
  by_name fs run x None is = atom_keeps fs run x is
  by_name fs run x (Some name) is = by_fixity fs run x name (fixity_of fs name) is

  step_keeps : (fs : Fixities) (run : Run) (x : Lexeme) → IsRun n run → Keeps (step parts fs run x) (IsRun n)
  unfolding step
  step_keeps fs run x is = by_name fs run x (infix_name x) is

  run_keeps : (fs : Fixities) (place : At) (first : Tall FullExp) → Exp (suc n) first
      → Keeps (run_from (suc n) parts fs place first) (Exp (suc n))
  unfolding run_from run_with whole_run steps
  run_keeps fs place first is =
      keep_on (λ x. keep_within (λ room. keep_bind (step_keeps fs _ x (run_is first (lowered is room))) (λ two so.
      keep_bind (keep_many (λ run x so. step_keeps fs run x so) two so) (λ run all. keep_pure _ (record {
        exact = add-one run.height ∙ ap suc all.exact ∙ sym (exp-Run run.items place);
        low = let low = all.low in omega arith;
      })))))
      (keep_pure first is)

  pub constraints_keep : (place : At) (first : Tall FullExp) → Exp (suc n) first
      → Keeps (constraints (suc n) parts place first) (Exp (suc n))
  unfolding constraints constraint
  constraints_keep place first is =
      keep_many (λ left x so. keep_within (λ room. keep_bind it.ty (λ ty too.
      keep_pure _ (over_two_is _ (λ inner ty. exp-Typed inner ty place) (lowered so room) too)))) first is

  typed_keeps : (fs : Fixities) (x : Lexeme) → Keeps (typed_of (suc n) parts fs x) (Exp (suc n))
  unfolding typed_of
  typed_keeps fs x =
      keep_bind (opened_atexp_keeps fs x) (λ first is. keep_bind (run_keeps fs (at x) first is)
      (λ run so. constraints_keep (at x) run so))

  pub behind_keeps : (fs : Fixities) (before : Word) → Keeps (exp_behind parts fs before) (Exp n)
  unfolding exp_behind
  behind_keeps fs before = keep_then (λ _. it.exp fs)

  rule_keeps : (fs : Fixities) → Keeps (rule parts fs) (IsMeasured rule_levels n)
  unfolding rule
  rule_keeps fs =
      keep_then (λ x. keep_bind (it.pat_after fs x) (λ pat is. keep_bind (behind_keeps fs w.DoubleArrow) (λ exp so.
      keep_pure _ (two_is (rule-is pat.tree exp.tree (at x)) is so))))

  rules_keep : (fs : Fixities) → Keeps (rules_of parts fs) (Rules n)
  unfolding rules_of
  rules_keep fs = keep_bind (rule_keeps fs) (λ first is. further_keeps _ (rule_keeps fs) (one_is is))

  pub fn_keeps : (fs : Fixities) (place : At) → Keeps (fn_of parts fs place) (Exp (suc n))
  unfolding fn_of
  fn_keeps fs place =
      keep_bind (rules_keep fs) (λ rules are. keep_pure _ (over_is _ (λ rules. exp-Fn rules place) are))

  if_keeps : (fs : Fixities) (place : At) → Keeps (if_exp parts fs place) (Exp (suc n))
  unfolding if_exp
  if_keeps fs place =
      keep_bind (it.exp fs) (λ test is. keep_bind (behind_keeps fs w.Then) (λ right so.
      keep_bind (behind_keeps fs w.Else) (λ wrong too. keep_pure _ (record {
        exact = add-one (max (max test.height right.height) wrong.height)
            ∙ ap₂ (λ a b. suc (max a b)) (ap₂ max is.exact so.exact) too.exact
            ∙ sym (exp-If test.tree right.tree wrong.tree place);
        low = let one = is.low in let two = so.low in let three = too.low in omega arith;
      }))))

  prefix_keeps : (fs : Fixities) (place : At) (found : Option Word)
      → Keeps (prefix_word parts fs place found) (Exp (suc n))
  unfolding raise_exp while_exp case_exp rules_behind
  prefix_keeps fs place (Some w.Raise) =
      keep_bind (it.exp fs) (λ inner is. keep_pure _ (over_is _ (λ inner. exp-Raise inner place) is))
  prefix_keeps fs place (Some w.If) = if_keeps fs place
  prefix_keeps fs place (Some w.While) =
      keep_bind (it.exp fs) (λ test is. keep_bind (behind_keeps fs w.Do) (λ body so.
      keep_pure _ (over_two_is _ (λ test body. exp-While test body place) is so)))
  prefix_keeps fs place (Some w.Case) =
      keep_bind (it.exp fs) (λ subject is. keep_bind (keep_then (λ _. rules_keep fs)) (λ rules so.
      keep_pure _ (over_two_is _ (λ subject rules. exp-Case subject rules place) is so)))
  prefix_keeps fs place (Some w.Fn) = fn_keeps fs place
  prefix_keeps fs place _ = keep_refuse

  operand_by_keeps : (fs : Fixities) (x : Lexeme) (prefix : Bool)
      → Keeps (operand_by (suc n) parts fs x prefix) (Exp (suc n))
  operand_by_keeps fs x true = keep_within (λ _. prefix_keeps fs (at x) (word x))
  operand_by_keeps fs x false = typed_keeps fs x

  operand_keeps : (fs : Fixities) (x : Lexeme) → Keeps (operand_after (suc n) parts fs x) (Exp (suc n))
  unfolding operand_after
  operand_keeps fs x = operand_by_keeps fs x (starts_prefix (word x))

  side_keeps : (fs : Fixities) (chain : Chain) → Keeps (side parts fs chain) (Exp n)
  side_keeps fs chain.Conjunction = it.operand fs
  side_keeps fs chain.Disjunction = it.conjunction fs

  link-is : (chain : Chain) (place : At) (left right : FullExp)
      → exp_levels (link chain place left right) ≡ suc (max (exp_levels left) (exp_levels right))
  link-is chain.Conjunction place left right = exp-AndAlso left right place
  link-is chain.Disjunction place left right = exp-OrElse left right place

  chained_keeps : (fs : Fixities) (place : At) (chain : Chain) (first : Tall FullExp) → Exp (suc n) first
      → Keeps (chained (suc n) parts fs place chain first) (Exp (suc n))
  unfolding chained beside
  chained_keeps fs place chain first is =
      keep_many (λ left x so. keep_within (λ room. keep_bind (side_keeps fs chain) (λ right too.
      keep_pure _ (over_two_is _ (link-is chain place) (lowered so room) too)))) first is

  conjunction_keeps : (fs : Fixities) (x : Lexeme) → Keeps (conjunction_after (suc n) parts fs x) (Exp (suc n))
  unfolding conjunction_after
  conjunction_keeps fs x =
      keep_bind (operand_keeps fs x) (λ first is. chained_keeps fs (at x) chain.Conjunction first is)

  pub operand_of_keeps : (fs : Fixities) → Keeps (operand_of (suc n) parts fs) (Exp (suc n))
  unfolding operand_of
  operand_of_keeps fs = keep_then (λ x. operand_keeps fs x)

  pub conjunction_of_keeps : (fs : Fixities) → Keeps (conjunction_of (suc n) parts fs) (Exp (suc n))
  unfolding conjunction_of
  conjunction_of_keeps fs = keep_then (λ x. conjunction_keeps fs x)

  handled_keeps : (fs : Fixities) (place : At) (left : Tall FullExp) → Exp (suc n) left
      → Keeps (handled (suc n) parts fs place left) (Exp (suc n))
  unfolding handled handle_exp
  handled_keeps fs place left is =
      keep_on (λ _. keep_within (λ room. keep_bind (rules_keep fs) (λ rules are.
      keep_pure _ (over_two_is _ (λ inner rules. exp-Handle inner rules place) (lowered is room) are))))
      (keep_pure left is)

  pub exp_of_keeps : (fs : Fixities) → Keeps (exp_of (suc n) parts fs) (Exp (suc n))
  unfolding exp_of disjunction_after
  exp_of_keeps fs =
      keep_then (λ x. keep_bind (keep_bind (conjunction_keeps fs x) (λ first is.
      chained_keeps fs (at x) chain.Disjunction first is)) (λ left so. handled_keeps fs (at x) left so))
