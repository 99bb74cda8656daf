-- The names of each expression that is read fit, over phrases of one level less of which the same holds.
use Rattle.std.proofs.Common.{ℕ, List, [], ◌∷◌, Option, None, Some, Bool, true, false, arith}
use Rattle.core_names.specs.Promises.{TypesFit}
use Rattle.core_names.proofs.Tys.{ty_keeps}
use Rattle.sml_lexer.specs.declared.lexeme.Lexeme.{Lexeme}
use Rattle.sml_lexer.specs.declared.lexeme.LexemeKind.{LexemeKind}
use Rattle.sml_lexer.specs.declared.lexeme.LexemeKind.TheVariants as k
use Rattle.sml_trees.specs.declared.name.At.{At}
use Rattle.sml_trees.specs.declared.full_pat.Constant.TheVariants as c
use Rattle.sml_trees.specs.declared.full_pat.Fixity.{Fixity}
use Rattle.sml_trees.specs.declared.name.Name.{Name}
use Rattle.sml_trees.specs.declared.full_exp.FullExp.{FullExp}
use Rattle.sml_trees.specs.declared.full_exp.FullExp.TheVariants as e
use Rattle.sml_trees.specs.declared.full_exp.FullExpItem.TheVariants as item
use Rattle.infix_names.specs.Fixities.{Fixities, fixity_of}
use Rattle.core_expressions.specs.Level.{Level}
use Rattle.core_expressions.specs.Expressions.{long_exp, op_exp, exps, exp_list, field, record_fields, record_exp, several, tuple_exp, sequence_exp, paren_exp, parens_from, parens, bracket_items, bracket, let_exp, atexp_word, atexp_kind, atexp_of, atom, behind_operator, step_by, step_with, step, steps, whole_run, run_with, run_from, constraint, constraints, typed_of, exp_behind, rule, rules_of, rules_behind, raise_exp, if_exp, while_exp, case_exp, fn_of, prefix_word, operand_by, operand_after, side, beside, chained, conjunction_after, disjunction_after, handle_exp, handled, operand_of, conjunction_of, exp_of}
use Rattle.expression_parts.specs.declared.runs.Run.{Run}
use Rattle.expression_parts.specs.declared.chain.Chain.{Chain}
use Rattle.expression_parts.specs.declared.chain.Chain.TheVariants as chain
use Rattle.expression_parts.specs.ExpStarts.{infix_name, op_parts, starts_prefix}
use Rattle.expression_parts.specs.ExpNodes.{link, run_of, with_atom, with_operator}
use Rattle.phrase_reading.specs.Sized.{one}
use Rattle.phrase_reading.specs.Words.{at, named, long_named, word}
use Rattle.sml_lexer.specs.Words.{word_of}
use Rattle.phrase_reading.specs.declared.tall.Tall.{Tall}
use Rattle.sml_lexer.specs.declared.words.Word.{Word}
use Rattle.sml_lexer.specs.declared.words.Word.TheVariants as w
use Rattle.lexeme_laws.specs.Limits.{IsWithinLimits}
use Rattle.body_laws.proofs.Signatures.{Each, each_of_all}
use Rattle.fitting_names.proofs.Texts.{FitText, parts_fit}
use Rattle.fitting_names.proofs.Nodes.{FitName, FitLong}
use Rattle.fitting_names.proofs.TyForms.{TyIs}
use Rattle.fitting_names.proofs.PatForms.{PatIs}
use Rattle.fitting_phrases.proofs.ExpForms.{ExpIs, DecIs, ItemIs, FieldIs, RuleIs, exp-Constant, exp-Long, exp-Record, exp-Unit, exp-Tuple, exp-Sequence, exp-Paren, exp-List, exp-Let, exp-Run, exp-Typed, exp-AndAlso, exp-OrElse, exp-Handle, exp-Raise, exp-If, exp-While, exp-Case, exp-Fn, item-Atom, item-Operator, exp_field-is, rule-is}
use Rattle.core_names.proofs.Keeping.{Good, Keeps, keep_pure, keep_refuse, keep_bind, keep_then, keep_on, keep_on_good, keep_within, keep_many, keep_beginning, IfAny, keep_taken_by, Holds, HoldsFew, leaf_is, over_is, over_two_is, part_is, one_is, more_is, further_keeps, further_few_keeps, HoldsEach, each-append}
use Rattle.core_names.proofs.Named.{as_long, long_is, label_keeps}
use Rattle.core_names.proofs.Equals.{infix_name_fits, op_parts_fit}

-- so are all phrases of the record
pub record LevelIs (level : Level) : Type 0 where
  pub ty : Keeps level.ty (Holds TyIs)
  pub pat_after : (fs : Fixities) (x : Lexeme) → Good x → Keeps (level.pat_after fs x) (Holds PatIs)
  pub exp : (fs : Fixities) → Keeps (level.exp fs) (Holds ExpIs)
  pub conjunction : (fs : Fixities) → Keeps (level.conjunction fs) (Holds ExpIs)
  pub operand : (fs : Fixities) → Keeps (level.operand fs) (Holds ExpIs)
  pub atexp : (fs : Fixities) (x : Lexeme) → Good x → Keeps (level.atexp fs x) (Holds ExpIs)
  pub fn_exp : (fs : Fixities) → Keeps (level.fn_exp fs) (Holds ExpIs)
  pub decs : (fs : Fixities) → Keeps (level.decs fs) (HoldsEach DecIs)
  pub dec : (fs : Fixities) (x : Lexeme) → Good x → Keeps (level.dec fs x) (HoldsEach DecIs)

-- the parts of a run
record IsRun (run : Run) : Type 0 where
  items : Each ItemIs run.items

run_is : (first : Tall FullExp) → Holds ExpIs first → IsRun (run_of first)
run_is first is = record { items = (item-Atom first.tree is.tree, tt) }

atom_is : (run : Run) (next : Tall FullExp) → IsRun run → Holds ExpIs next → IsRun (with_atom run next)
atom_is run next so is = record {
  items = each-append ItemIs run.items (item.Atom next.tree ∷ []) so.items (item-Atom next.tree is.tree, tt);
}

operator_is : (run : Run) (called : Name) (f : Fixity) → FitName called → IsRun run
    → IsRun (with_operator run called f)
operator_is run called f fits so = record {
  items = each-append ItemIs run.items (item.Operator called f ∷ []) so.items (item-Operator called f fits, tt);
}

-- over phrases of one level less
module _ (n : ℕ) (parts : Level) (it : LevelIs parts) where
  exps_keep : (fs : Fixities) (mark : Word) (found : Tall (List FullExp)) → Holds (Each ExpIs) found
      → Keeps (exps parts fs mark found) (Holds (Each ExpIs))
  exps_keep fs mark found is = further_keeps mark (it.exp fs) is

  list_keeps : (fs : Fixities) (mark : Word) → Keeps (exp_list parts fs mark) (Holds (Each ExpIs))
  unfolding exp_list
  list_keeps fs mark = keep_bind (it.exp fs) (λ first is. exps_keep fs mark (one first) (one_is is))

  field_keeps : (fs : Fixities) → Keeps (field parts fs) (Holds FieldIs)
  unfolding field
  field_keeps fs =
      keep_bind label_keeps (λ name fits. keep_then (λ _. keep_bind (it.exp fs) (λ value is.
      keep_pure _ (part_is _ (λ value. exp_field-is name value fits) is))))

  record_keeps : (fs : Fixities) (place : At) → Keeps (record_exp parts fs place) (Holds ExpIs)
  unfolding record_exp record_fields
  record_keeps fs place =
      keep_on (λ _. keep_pure _ (leaf_is (e.Record [] place) (exp-Record [] place tt)))
      (keep_bind (field_keeps fs) (λ first is. keep_bind (further_keeps _ (field_keeps fs) (one_is is))
      (λ found are. keep_then (λ _. keep_pure _ (over_is _ (λ fields. exp-Record fields place) are)))))

  several_keep : (fs : Fixities) (mark : Word) (first : Tall FullExp) → Holds ExpIs first
      → Keeps (several parts fs mark first) (HoldsFew ExpIs)
  unfolding several
  several_keep fs mark first is =
      keep_bind (it.exp fs) (λ second so.
      keep_bind (further_few_keeps mark (omega arith) (it.exp fs) (more_is (one_is is) so))
      (λ found are. keep_then (λ _. keep_pure found are)))

  parens_keep : (fs : Fixities) (place : At) → Keeps (parens parts fs place) (Holds ExpIs)
  unfolding parens parens_from tuple_exp sequence_exp paren_exp
  parens_keep fs place =
      keep_on (λ _. keep_pure _ (leaf_is (e.Unit place) (exp-Unit place)))
      (keep_bind (it.exp fs) (λ first is. keep_on
      (λ _. keep_bind (several_keep fs w.Comma first is) (λ found are.
      keep_pure _ (record { tree = exp-Tuple found.tree place are.few are.all })))
      (keep_on (λ _. keep_bind (several_keep fs w.Semicolon first is) (λ found are.
      keep_pure _ (record { tree = exp-Sequence found.tree place are.all })))
      (keep_then (λ _. keep_pure _ (over_is _ (λ inner. exp-Paren inner place) is))))))

  bracket_keeps : (fs : Fixities) (place : At) → Keeps (bracket parts fs place) (Holds ExpIs)
  unfolding bracket bracket_items
  bracket_keeps fs place =
      keep_on (λ _. keep_pure _ (leaf_is (e.List [] place) (exp-List [] place tt)))
      (keep_bind (list_keeps fs w.Comma) (λ found are. keep_then (λ _.
      keep_pure _ (over_is _ (λ items. exp-List items place) are))))

  let_keeps : (fs : Fixities) (place : At) → Keeps (let_exp parts fs place) (Holds ExpIs)
  unfolding let_exp
  let_keeps fs place =
      keep_bind (it.decs fs) (λ found are. keep_then (λ _. keep_bind (list_keeps found.fixities w.Semicolon) (λ body so.
      keep_then (λ _. keep_pure _ (record { tree = exp-Let found.decs body.tree place are.decs so.tree })))))

  as_exp : (place : At) (x : Lexeme) (found : Option (List (List ℕ)))
      → IfAny (λ parts. FitLong (long_named x parts)) found
      → IfAny (λ parts. Holds ExpIs (long_exp true place x parts)) found
  as_exp place x None is = tt
  as_exp place x (Some parts) is = leaf_is _ (exp-Long (record { op = true; long = long_named x parts }) place is)

  atexp_word_keeps : (fs : Fixities) (place : At) (found : Option Word)
      → Keeps (atexp_word parts fs place found) (Holds ExpIs)
  unfolding op_exp
  atexp_word_keeps fs place (Some w.Op) =
      keep_taken_by _ _ (λ x good. as_exp place x (op_parts x) (as_long x (op_parts x) (op_parts_fit x good)))
  atexp_word_keeps fs place (Some w.OpenBrace) = record_keeps fs place
  atexp_word_keeps fs place (Some w.Open) = parens_keep fs place
  atexp_word_keeps fs place (Some w.OpenBracket) = bracket_keeps fs place
  atexp_word_keeps fs place (Some w.Let) = let_keeps fs place
  atexp_word_keeps fs place _ = keep_refuse

  atexp_keeps : (fs : Fixities) (x : Lexeme) (kind : LexemeKind) → IsWithinLimits kind
      → Keeps (atexp_kind parts fs x kind) (Holds ExpIs)
  atexp_keeps fs x (k.Reserved text) good = atexp_word_keeps fs (at x) (word_of text)
  atexp_keeps fs x (k.Name parts) good =
      keep_pure _ (leaf_is _ (exp-Long (record { op = false; long = long_named x parts }) (at x)
      (long_is parts x.line x.col (record { some = good.0; each = parts_fit parts good.1 }))))
  atexp_keeps fs x (k.TyVar text) good = keep_refuse
  atexp_keeps fs x (k.Int value ok) good =
      keep_pure _ (leaf_is _ (exp-Constant (c.Int value) (at x)))
  atexp_keeps fs x (k.Str text) good = keep_pure _ (leaf_is _ (exp-Constant (c.Str text) (at x)))
  atexp_keeps fs x (k.Char byte) good = keep_pure _ (leaf_is _ (exp-Constant (c.Char byte) (at x)))

  pub opened_atexp_keeps : (fs : Fixities) (x : Lexeme) → Good x → Keeps (atexp_of n parts fs x) (Holds ExpIs)
  unfolding atexp_of
  opened_atexp_keeps fs x good = keep_within (atexp_keeps fs x x.kind good)

  atom_keeps : (fs : Fixities) (run : Run) (x : Lexeme) → Good x → IsRun run → Keeps (atom parts fs run x) IsRun
  unfolding atom
  atom_keeps fs run x good is = keep_bind (it.atexp fs x good) (λ next so. keep_pure _ (atom_is run next is so))

  by_fixity : (fs : Fixities) (run : Run) (x : Lexeme) (name : List ℕ) (found : Option Fixity) → Good x
      → FitText name → IsRun run → Keeps (step_by parts fs run x name found) IsRun
  unfolding behind_operator
  by_fixity fs run x name None good called is = atom_keeps fs run x good is
  by_fixity fs run x name (Some f) good called is =
      keep_bind (keep_beginning _) (λ y fits.
      atom_keeps fs (with_operator run (named x name) f) y fits (operator_is run (named x name) f called is))

  by_name : (fs : Fixities) (run : Run) (x : Lexeme) (found : Option (List ℕ)) → Good x
      → IfAny FitText found → IsRun run → Keeps (step_with parts fs run x found) IsRun
  by_name fs run x None good called is = atom_keeps fs run x good is
  by_name fs run x (Some name) good called is = by_fixity fs run x name (fixity_of fs name) good called is

  step_keeps : (fs : Fixities) (run : Run) (x : Lexeme) → Good x → IsRun run → Keeps (step parts fs run x) IsRun
  unfolding step
  step_keeps fs run x good is = by_name fs run x (infix_name x) good (infix_name_fits x good) is

  run_keeps : (fs : Fixities) (place : At) (first : Tall FullExp) → Holds ExpIs first
      → Keeps (run_from n parts fs place first) (Holds ExpIs)
  unfolding run_from run_with whole_run steps
  run_keeps fs place first is =
      keep_on_good (λ x good. keep_within (keep_bind (step_keeps fs _ x good (run_is first is)) (λ two so.
      keep_bind (keep_many (λ run y fits so. step_keeps fs run y fits so) two so) (λ run all.
      keep_pure _ (record { tree = exp-Run run.items place all.items })))))
      (keep_pure first is)

  pub constraints_keep : (place : At) (first : Tall FullExp) → Holds ExpIs first
      → Keeps (constraints n parts place first) (Holds ExpIs)
  unfolding constraints constraint
  constraints_keep place first is =
      keep_many (λ left x _ so. keep_within (keep_bind it.ty (λ ty is.
      keep_pure _ (record { tree = exp-Typed left.tree ty.tree place so.tree is.tree })))) first is

  typed_keeps : (fs : Fixities) (x : Lexeme) → Good x → Keeps (typed_of n parts fs x) (Holds ExpIs)
  unfolding typed_of
  typed_keeps fs x good =
      keep_bind (opened_atexp_keeps fs x good) (λ first is. keep_bind (run_keeps fs (at x) first is)
      (λ run so. constraints_keep (at x) run so))

  pub behind_keeps : (fs : Fixities) (before : Word) → Keeps (exp_behind parts fs before) (Holds ExpIs)
  unfolding exp_behind
  behind_keeps fs before = keep_then (λ _. it.exp fs)

  rule_keeps : (fs : Fixities) → Keeps (rule parts fs) (Holds RuleIs)
  unfolding rule
  rule_keeps fs =
      keep_bind (keep_beginning _) (λ x good. keep_bind (it.pat_after fs x good) (λ pat is.
      keep_bind (behind_keeps fs w.DoubleArrow) (λ exp so.
      keep_pure _ (record { tree = rule-is pat.tree exp.tree (at x) is.tree so.tree }))))

  rules_keep : (fs : Fixities) → Keeps (rules_of parts fs) (Holds (Each RuleIs))
  unfolding rules_of
  rules_keep fs = keep_bind (rule_keeps fs) (λ first is. further_keeps _ (rule_keeps fs) (one_is is))

  pub fn_keeps : (fs : Fixities) (place : At) → Keeps (fn_of parts fs place) (Holds ExpIs)
  unfolding fn_of
  fn_keeps fs place =
      keep_bind (rules_keep fs) (λ rules are. keep_pure _ (over_is _ (λ rules. exp-Fn rules place) are))

  if_keeps : (fs : Fixities) (place : At) → Keeps (if_exp parts fs place) (Holds ExpIs)
  unfolding if_exp
  if_keeps fs place =
      keep_bind (it.exp fs) (λ test is. keep_bind (behind_keeps fs w.Then) (λ right so.
      keep_bind (behind_keeps fs w.Else) (λ wrong too.
      keep_pure _ (record { tree = exp-If test.tree right.tree wrong.tree place is.tree so.tree too.tree }))))

  prefix_keeps : (fs : Fixities) (place : At) (found : Option Word)
      → Keeps (prefix_word parts fs place found) (Holds ExpIs)
  unfolding raise_exp while_exp case_exp rules_behind
  prefix_keeps fs place (Some w.Raise) =
      keep_bind (it.exp fs) (λ inner is. keep_pure _ (over_is _ (λ inner. exp-Raise inner place) is))
  prefix_keeps fs place (Some w.If) = if_keeps fs place
  prefix_keeps fs place (Some w.While) =
      keep_bind (it.exp fs) (λ test is. keep_bind (behind_keeps fs w.Do) (λ body so.
      keep_pure _ (over_two_is _ (λ test body. exp-While test body place) is so)))
  prefix_keeps fs place (Some w.Case) =
      keep_bind (it.exp fs) (λ subject is. keep_bind (keep_then (λ _. rules_keep fs)) (λ rules so.
      keep_pure _ (over_two_is _ (λ subject rules. exp-Case subject rules place) is so)))
  prefix_keeps fs place (Some w.Fn) = fn_keeps fs place
  prefix_keeps fs place _ = keep_refuse

  operand_by_keeps : (fs : Fixities) (x : Lexeme) (prefix : Bool) → Good x
      → Keeps (operand_by n parts fs x prefix) (Holds ExpIs)
  operand_by_keeps fs x true good = keep_within (prefix_keeps fs (at x) (word x))
  operand_by_keeps fs x false good = typed_keeps fs x good

  operand_keeps : (fs : Fixities) (x : Lexeme) → Good x → Keeps (operand_after n parts fs x) (Holds ExpIs)
  unfolding operand_after
  operand_keeps fs x good = operand_by_keeps fs x (starts_prefix (word x)) good

  side_keeps : (fs : Fixities) (chain : Chain) → Keeps (side parts fs chain) (Holds ExpIs)
  side_keeps fs chain.Conjunction = it.operand fs
  side_keeps fs chain.Disjunction = it.conjunction fs

  link-is : (chain : Chain) (place : At) (left right : FullExp) → ExpIs left → ExpIs right
      → ExpIs (link chain place left right)
  link-is chain.Conjunction place left right = exp-AndAlso left right place
  link-is chain.Disjunction place left right = exp-OrElse left right place

  chained_keeps : (fs : Fixities) (place : At) (chain : Chain) (first : Tall FullExp) → Holds ExpIs first
      → Keeps (chained n parts fs place chain first) (Holds ExpIs)
  unfolding chained beside
  chained_keeps fs place chain first is =
      keep_many (λ left x _ so. keep_within (keep_bind (side_keeps fs chain) (λ right too.
      keep_pure _ (over_two_is _ (link-is chain place) so too)))) first is

  conjunction_keeps : (fs : Fixities) (x : Lexeme) → Good x → Keeps (conjunction_after n parts fs x) (Holds ExpIs)
  unfolding conjunction_after
  conjunction_keeps fs x good =
      keep_bind (operand_keeps fs x good) (λ first is. chained_keeps fs (at x) chain.Conjunction first is)

  pub operand_of_keeps : (fs : Fixities) → Keeps (operand_of n parts fs) (Holds ExpIs)
  unfolding operand_of
  operand_of_keeps fs = keep_bind (keep_beginning _) (λ x good. operand_keeps fs x good)

  pub conjunction_of_keeps : (fs : Fixities) → Keeps (conjunction_of n parts fs) (Holds ExpIs)
  unfolding conjunction_of
  conjunction_of_keeps fs = keep_bind (keep_beginning _) (λ x good. conjunction_keeps fs x good)

  handled_keeps : (fs : Fixities) (place : At) (left : Tall FullExp) → Holds ExpIs left
      → Keeps (handled n parts fs place left) (Holds ExpIs)
  unfolding handled handle_exp
  handled_keeps fs place left is =
      keep_on (λ _. keep_within (keep_bind (rules_keep fs) (λ rules are.
      keep_pure _ (over_two_is _ (λ inner rules. exp-Handle inner rules place) is are))))
      (keep_pure left is)

  pub exp_of_keeps : (fs : Fixities) → Keeps (exp_of n parts fs) (Holds ExpIs)
  unfolding exp_of disjunction_after
  exp_of_keeps fs =
      keep_bind (keep_beginning _) (λ x good. keep_bind (keep_bind (conjunction_keeps fs x good) (λ first is.
      chained_keeps fs (at x) chain.Disjunction first is)) (λ left so. handled_keeps fs (at x) left so))

-- ---- the law of types

pub types : TypesFit
types most lexemes next made all few phrase =
    ((ty_keeps most).gives lexemes next made (record { good = each_of_all Good lexemes all; few = few }) phrase).tree
