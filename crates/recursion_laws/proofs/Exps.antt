-- What is bound in each phrase of the grammar of expressions is so, over phrases of one level less of which the same
-- holds.
use Rattle.std.proofs.Common.{◌≡◌, ℕ, List, [], ◌∷◌, Option, None, Some, Bool, true, false, refl, ap, ◌∙◌}
use Rattle.sml_lexer.specs.declared.lexeme.Lexeme.{Lexeme}
use Rattle.sml_lexer.specs.declared.lexeme.LexemeKind.{LexemeKind}
use Rattle.sml_lexer.specs.declared.lexeme.LexemeKind.TheVariants as k
use Rattle.sml_trees.specs.declared.name.At.{At}
use Rattle.sml_trees.specs.declared.name.Name.{Name}
use Rattle.sml_trees.specs.declared.full_pat.Constant.TheVariants as c
use Rattle.sml_trees.specs.declared.full_pat.Fixity.{Fixity}
use Rattle.sml_trees.specs.declared.full_exp.FullDec.{FullDec}
use Rattle.sml_trees.specs.declared.full_exp.FullDec.TheOpen.{FullExp-F, FullExpItem-F}
use Rattle.sml_trees.specs.declared.full_exp.FullExp.{FullExp, roll-FullExp}
use Rattle.sml_trees.specs.declared.full_exp.FullExp.TheVariants as e
use Rattle.sml_trees.specs.declared.full_exp.FullExpItem.{FullExpItem}
use Rattle.sml_trees.specs.declared.full_exp.FullExpItem.TheVariants as item
use Rattle.sml_trees.specs.declared.full_exp.FullExpField.{FullExpField}
use Rattle.sml_trees.specs.declared.full_exp.FullClause.{FullClause}
use Rattle.sml_trees.specs.declared.full_exp.FullFunBind.{FullFunBind}
use Rattle.sml_trees.specs.declared.full_exp.FullRule.{FullRule}
use Rattle.sml_trees.specs.declared.full_exp.FullValBind.{FullValBind}
use Rattle.infix_names.specs.Fixities.{Fixities, fixity_of}
use Rattle.core_bindings.specs.Decs.{Decs}
use Rattle.core_expressions.specs.Level.{Level}
use Rattle.core_expressions.specs.Expressions.{op_exp, exps, exp_list, field, record_fields, record_exp, several, tuple_exp, sequence_exp, paren_exp, parens_from, parens, bracket_items, bracket, let_exp, atexp_word, atexp_kind, atexp_of, atom, behind_operator, step_by, step_with, step, steps, whole_run, run_with, run_from, constraint, constraints, typed_of, exp_behind, rule, rules_of, rules_behind, raise_exp, if_exp, while_exp, case_exp, fn_of, prefix_word, operand_by, operand_after, side, beside, chained, conjunction_after, disjunction_after, handle_exp, handled, operand_of, conjunction_of, exp_of}
use Rattle.expression_parts.specs.declared.runs.Run.{Run}
use Rattle.expression_parts.specs.declared.chain.Chain.{Chain}
use Rattle.expression_parts.specs.declared.chain.Chain.TheVariants as chain
use Rattle.expression_parts.specs.ExpStarts.{infix_name, starts_prefix}
use Rattle.expression_parts.specs.ExpNodes.{link, run_of, with_atom, with_operator}
use Rattle.phrase_reading.specs.Sized.{one, more, further}
use Rattle.phrase_reading.specs.Words.{g, at, named, word}
use Rattle.sml_lexer.specs.Words.{word_of}
use Rattle.phrase_reading.specs.declared.tall.Tall.{Tall}
use Rattle.sml_lexer.specs.declared.words.Word.{Word}
use Rattle.sml_lexer.specs.declared.words.Word.TheVariants as w
use Rattle.level_laws.proofs.Keeping.{Keeps, keep_pure, keep_refuse, keep_bind, keep_then, keep_on, keep_within, keep_many, keep_taken, keep_weak}
use Rattle.recursion_laws.specs.Functions.{ExpFacts, is_sound, dec_binds, exp_binds, item_binds, field_binds, rule_binds, clause_binds, fun_binds, val_binds, exp_step}
use Rattle.recursion_laws.proofs.Forms.{exp_form, item_form, field_form, rule_form, both_true, AllPass, one_passes, more_pass}
use Rattle.sml_trees.specs.declared.full_exp.FullDec.TheFolds.{map-FullExp}

-- ---- what is made

abbrev pub passes : Bool → Bool
passes b = b

abbrev pub ExpIs : Tall FullExp → Type 0
ExpIs made = is_sound (exp_binds made.tree) ≡ true

-- a function
pub record FnIs (made : Tall FullExp) : Type 0 where
  pub function : (exp_binds made.tree).function ≡ true
  pub sound : ExpIs made

abbrev pub ExpsAre : Tall (List FullExp) → Type 0
ExpsAre made = AllPass is_sound exp_binds made.tree

abbrev pub RulesAre : Tall (List FullRule) → Type 0
RulesAre made = AllPass passes rule_binds made.tree

abbrev pub DecsAre : Decs FullDec → Type 0
DecsAre found = AllPass passes dec_binds found.decs

abbrev RunIs : Run → Type 0
RunIs run = AllPass passes item_binds run.items

-- an expression of this form
exp_is : (x : FullExp-F FullDec FullExp FullExpItem FullClause FullExpField FullFunBind FullRule FullValBind)
    (tree : FullExp) → roll-FullExp x ≡ tree
    → is_sound (exp_step (map-FullExp _ _ _ _ _ _ _ _ _ _ _ _ _ _ _ _ dec_binds exp_binds item_binds clause_binds field_binds fun_binds rule_binds val_binds x)) ≡ true
    → is_sound (exp_binds tree) ≡ true
exp_is x tree e h = ap is_sound (exp_form x tree e) ∙ h

-- further parts behind their marks
pub further_pass : {A B : Type 0} (test : B → Bool) (facts : A → B) (mark : Word) {each : g (Tall A)}
    (found : Tall (List A)) → Keeps each (λ made. test (facts made.tree) ≡ true) → AllPass test facts found.tree
    → Keeps (further mark each found) (λ made. AllPass test facts made.tree)
unfolding further
further_pass test facts mark {each} found every are =
    keep_many (λ found x so. keep_bind every (λ next it. keep_pure (more found next)
    (more_pass test facts found.tree (next.tree ∷ []) so (one_passes test facts next.tree it)))) found are

-- all phrases of the record are so
pub record LevelIs (level : Level) : Type 0 where
  pub exp : (fs : Fixities) → Keeps (level.exp fs) ExpIs
  pub conjunction : (fs : Fixities) → Keeps (level.conjunction fs) ExpIs
  pub operand : (fs : Fixities) → Keeps (level.operand fs) ExpIs
  pub atexp : (fs : Fixities) (x : Lexeme) → Keeps (level.atexp fs x) ExpIs
  pub fn_exp : (fs : Fixities) → Keeps (level.fn_exp fs) FnIs
  pub decs : (fs : Fixities) → Keeps (level.decs fs) DecsAre
  pub dec : (fs : Fixities) (x : Lexeme) → Keeps (level.dec fs x) DecsAre

run_is : (first : Tall FullExp) → ExpIs first → RunIs (run_of first)
run_is first is = one_passes passes item_binds (item.Atom first.tree)
    (item_form (FullExpItem-F.Atom first.tree) (item.Atom first.tree) (item.rolls-Atom first.tree) ∙ is)

atom_is : (run : Run) (next : Tall FullExp) → RunIs run → ExpIs next → RunIs (with_atom run next)
atom_is run next so is = more_pass passes item_binds run.items (item.Atom next.tree ∷ []) so (run_is next is)

operator_is : (run : Run) (called : Name) (f : Fixity) → RunIs run → RunIs (with_operator run called f)
operator_is run called f so = more_pass passes item_binds run.items (item.Operator called f ∷ []) so
    (one_passes passes item_binds (item.Operator called f)
    (item_form (FullExpItem-F.Operator called f) (item.Operator called f) (item.rolls-Operator called f)))

-- over phrases of one level less
module _ (n : ℕ) (parts : Level) (it : LevelIs parts) where
  exps_keep : (fs : Fixities) (mark : Word) (found : Tall (List FullExp)) → ExpsAre found
      → Keeps (exps parts fs mark found) ExpsAre
  exps_keep fs mark found are = further_pass is_sound exp_binds mark found (it.exp fs) are

  list_keeps : (fs : Fixities) (mark : Word) → Keeps (exp_list parts fs mark) ExpsAre
  unfolding exp_list
  list_keeps fs mark =
      keep_bind (it.exp fs) (λ first is. exps_keep fs mark (one first) (one_passes is_sound exp_binds first.tree is))

  field_keeps : (fs : Fixities) → Keeps (field parts fs) (λ made. field_binds made.tree ≡ true)
  unfolding field
  field_keeps fs =
      keep_then (λ name. keep_then (λ _. keep_bind (it.exp fs) (λ value is.
      keep_pure _ (field_form (record { label = name; exp = value.tree }) ∙ is))))

  record_keeps : (fs : Fixities) (place : At) → Keeps (record_exp parts fs place) ExpIs
  unfolding record_exp record_fields
  record_keeps fs place =
      keep_on (λ _. keep_pure _ (exp_is (FullExp-F.Record [] place) _ (e.rolls-Record [] place) refl))
      (keep_bind (field_keeps fs) (λ first is.
      keep_bind (further_pass passes field_binds w.Comma (one first) (field_keeps fs) (one_passes passes field_binds first.tree is))
      (λ found are. keep_then (λ _.
      keep_pure _ (exp_is (FullExp-F.Record found.tree place) _ (e.rolls-Record found.tree place) are)))))

  several_keep : (fs : Fixities) (mark : Word) (first : Tall FullExp) → ExpIs first
      → Keeps (several parts fs mark first) ExpsAre
  unfolding several
  several_keep fs mark first is =
      keep_bind (it.exp fs) (λ second so. keep_bind (exps_keep fs mark (more (one first) second)
      (more_pass is_sound exp_binds (first.tree ∷ []) (second.tree ∷ []) (one_passes is_sound exp_binds first.tree is)
      (one_passes is_sound exp_binds second.tree so))) (λ found are. keep_then (λ _. keep_pure found are)))

  parens_keep : (fs : Fixities) (place : At) → Keeps (parens parts fs place) ExpIs
  unfolding parens parens_from tuple_exp sequence_exp paren_exp
  parens_keep fs place =
      keep_on (λ _. keep_pure _ (exp_is (FullExp-F.Unit place) _ (e.rolls-Unit place) refl))
      (keep_bind (it.exp fs) (λ first is. keep_on
      (λ _. keep_bind (several_keep fs w.Comma first is) (λ found are.
      keep_pure _ (exp_is (FullExp-F.Tuple found.tree place) _ (e.rolls-Tuple found.tree place) are)))
      (keep_on (λ _. keep_bind (several_keep fs w.Semicolon first is) (λ found are.
      keep_pure _ (exp_is (FullExp-F.Sequence found.tree place) _ (e.rolls-Sequence found.tree place) are)))
      (keep_then (λ _.
      keep_pure _ (exp_is (FullExp-F.Paren first.tree place) _ (e.rolls-Paren first.tree place) is))))))

  bracket_keeps : (fs : Fixities) (place : At) → Keeps (bracket parts fs place) ExpIs
  unfolding bracket bracket_items
  bracket_keeps fs place =
      keep_on (λ _. keep_pure _ (exp_is (FullExp-F.List [] place) _ (e.rolls-List [] place) refl))
      (keep_bind (list_keeps fs w.Comma) (λ found are. keep_then (λ _.
      keep_pure _ (exp_is (FullExp-F.List found.tree place) _ (e.rolls-List found.tree place) are))))

  let_keeps : (fs : Fixities) (place : At) → Keeps (let_exp parts fs place) ExpIs
  unfolding let_exp
  let_keeps fs place =
      keep_bind (it.decs fs) (λ found are. keep_then (λ _. keep_bind (list_keeps found.fixities w.Semicolon) (λ body so.
      keep_then (λ _. keep_pure _ (exp_is (FullExp-F.Let found.decs body.tree place) _
      (e.rolls-Let found.decs body.tree place) (both_true _ _ are so))))))

  atexp_word_keeps : (fs : Fixities) (place : At) (found : Option Word)
      → Keeps (atexp_word parts fs place found) ExpIs
  unfolding op_exp
  atexp_word_keeps fs place (Some w.Op) =
      keep_taken _ _ (λ x parts. exp_is (FullExp-F.Long _ place) _ (e.rolls-Long _ place) refl)
  atexp_word_keeps fs place (Some w.OpenBrace) = record_keeps fs place
  atexp_word_keeps fs place (Some w.Open) = parens_keep fs place
  atexp_word_keeps fs place (Some w.OpenBracket) = bracket_keeps fs place
  atexp_word_keeps fs place (Some w.Let) = let_keeps fs place
  atexp_word_keeps fs place _ = keep_refuse

  atexp_keeps : (fs : Fixities) (x : Lexeme) (kind : LexemeKind) → Keeps (atexp_kind parts fs x kind) ExpIs
  atexp_keeps fs x (k.Reserved text) = atexp_word_keeps fs (at x) (word_of text)
  atexp_keeps fs x (k.Name parts) = keep_pure _ (exp_is (FullExp-F.Long _ (at x)) _ (e.rolls-Long _ (at x)) refl)
  atexp_keeps fs x (k.TyVar text) = keep_refuse
  atexp_keeps fs x (k.Int value ok) = keep_pure _
      (exp_is (FullExp-F.Constant (c.Int value) (at x)) _ (e.rolls-Constant (c.Int value) (at x)) refl)
  atexp_keeps fs x (k.Str text) = keep_pure _
      (exp_is (FullExp-F.Constant (c.Str text) (at x)) _ (e.rolls-Constant (c.Str text) (at x)) refl)
  atexp_keeps fs x (k.Char byte) = keep_pure _
      (exp_is (FullExp-F.Constant (c.Char byte) (at x)) _ (e.rolls-Constant (c.Char byte) (at x)) refl)

  pub opened_atexp_keeps : (fs : Fixities) (x : Lexeme) → Keeps (atexp_of n parts fs x) ExpIs
  unfolding atexp_of
  opened_atexp_keeps fs x = keep_within (λ _. atexp_keeps fs x x.kind)

  atom_keeps : (fs : Fixities) (run : Run) (x : Lexeme) → RunIs run → Keeps (atom parts fs run x) RunIs
  unfolding atom
  atom_keeps fs run x is = keep_bind (it.atexp fs x) (λ next so. keep_pure _ (atom_is run next is so))

  by_fixity : (fs : Fixities) (run : Run) (x : Lexeme) (name : List ℕ) (found : Option Fixity) → RunIs run
      → Keeps (step_by parts fs run x name found) RunIs
  unfolding behind_operator
  by_fixity fs run x name None is = atom_keeps fs run x is
  by_fixity fs run x name (Some f) is =
      keep_then (λ y. atom_keeps fs (with_operator run (named x name) f) y (operator_is run (named x name) f is))

  by_name : (fs : Fixities) (run : Run) (x : Lexeme) (found : Option (List ℕ)) → RunIs run
      → Keeps (step_with parts fs run x found) RunIs
  by_name fs run x None is = atom_keeps fs run x is
  by_name fs run x (Some name) is = by_fixity fs run x name (fixity_of fs name) is

  step_keeps : (fs : Fixities) (run : Run) (x : Lexeme) → RunIs run → Keeps (step parts fs run x) RunIs
  unfolding step
  step_keeps fs run x is = by_name fs run x (infix_name x) is

  run_keeps : (fs : Fixities) (place : At) (first : Tall FullExp) → ExpIs first
      → Keeps (run_from n parts fs place first) ExpIs
  unfolding run_from run_with whole_run steps
  run_keeps fs place first is =
      keep_on (λ x. keep_within (λ _. keep_bind (step_keeps fs _ x (run_is first is)) (λ two so.
      keep_bind (keep_many (λ run x so. step_keeps fs run x so) two so) (λ run all.
      keep_pure _ (exp_is (FullExp-F.Run run.items place) _ (e.rolls-Run run.items place) all)))))
      (keep_pure first is)

  pub constraints_keep : (place : At) (first : Tall FullExp) → ExpIs first
      → Keeps (constraints n parts place first) ExpIs
  unfolding constraints constraint
  constraints_keep place first is =
      keep_many (λ left x so. keep_within (λ _. keep_then (λ ty.
      keep_pure _ (exp_is (FullExp-F.Typed left.tree ty.tree place) _ (e.rolls-Typed left.tree ty.tree place) so)))) first is

  typed_keeps : (fs : Fixities) (x : Lexeme) → Keeps (typed_of n parts fs x) ExpIs
  unfolding typed_of
  typed_keeps fs x =
      keep_bind (opened_atexp_keeps fs x) (λ first is. keep_bind (run_keeps fs (at x) first is)
      (λ run so. constraints_keep (at x) run so))

  pub behind_keeps : (fs : Fixities) (before : Word) → Keeps (exp_behind parts fs before) ExpIs
  unfolding exp_behind
  behind_keeps fs before = keep_then (λ _. it.exp fs)

  rule_keeps : (fs : Fixities) → Keeps (rule parts fs) (λ made. rule_binds made.tree ≡ true)
  unfolding rule
  rule_keeps fs =
      keep_then (λ x. keep_then (λ pat. keep_bind (behind_keeps fs w.DoubleArrow) (λ exp so.
      keep_pure _ (rule_form (record { pat = pat.tree; exp = exp.tree; at = at x }) ∙ so))))

  rules_keep : (fs : Fixities) → Keeps (rules_of parts fs) RulesAre
  unfolding rules_of
  rules_keep fs = keep_bind (rule_keeps fs) (λ first is.
      further_pass passes rule_binds w.Bar (one first) (rule_keeps fs) (one_passes passes rule_binds first.tree is))

  pub fn_keeps : (fs : Fixities) (place : At) → Keeps (fn_of parts fs place) FnIs
  unfolding fn_of
  fn_keeps fs place =
      keep_bind (rules_keep fs) (λ rules are. keep_pure _ (record {
        function = ap (λ (facts : ExpFacts). facts.function)
            (exp_form (FullExp-F.Fn rules.tree place) _ (e.rolls-Fn rules.tree place));
        sound = exp_is (FullExp-F.Fn rules.tree place) _ (e.rolls-Fn rules.tree place) are;
      }))

  if_keeps : (fs : Fixities) (place : At) → Keeps (if_exp parts fs place) ExpIs
  unfolding if_exp
  if_keeps fs place =
      keep_bind (it.exp fs) (λ test is. keep_bind (behind_keeps fs w.Then) (λ right so.
      keep_bind (behind_keeps fs w.Else) (λ wrong too.
      keep_pure _ (exp_is (FullExp-F.If test.tree right.tree wrong.tree place) _
      (e.rolls-If test.tree right.tree wrong.tree place) (both_true _ _ is (both_true _ _ so too))))))

  prefix_keeps : (fs : Fixities) (place : At) (found : Option Word)
      → Keeps (prefix_word parts fs place found) ExpIs
  unfolding raise_exp while_exp case_exp rules_behind
  prefix_keeps fs place (Some w.Raise) =
      keep_bind (it.exp fs) (λ inner is.
      keep_pure _ (exp_is (FullExp-F.Raise inner.tree place) _ (e.rolls-Raise inner.tree place) is))
  prefix_keeps fs place (Some w.If) = if_keeps fs place
  prefix_keeps fs place (Some w.While) =
      keep_bind (it.exp fs) (λ test is. keep_bind (behind_keeps fs w.Do) (λ body so.
      keep_pure _ (exp_is (FullExp-F.While test.tree body.tree place) _ (e.rolls-While test.tree body.tree place)
      (both_true _ _ is so))))
  prefix_keeps fs place (Some w.Case) =
      keep_bind (it.exp fs) (λ subject is. keep_bind (keep_then (λ _. rules_keep fs)) (λ rules so.
      keep_pure _ (exp_is (FullExp-F.Case subject.tree rules.tree place) _
      (e.rolls-Case subject.tree rules.tree place) (both_true _ _ is so))))
  prefix_keeps fs place (Some w.Fn) = keep_weak (fn_keeps fs place) (λ made is. is.sound)
  prefix_keeps fs place _ = keep_refuse

  operand_by_keeps : (fs : Fixities) (x : Lexeme) (prefix : Bool) → Keeps (operand_by n parts fs x prefix) ExpIs
  operand_by_keeps fs x true = keep_within (λ _. prefix_keeps fs (at x) (word x))
  operand_by_keeps fs x false = typed_keeps fs x

  operand_keeps : (fs : Fixities) (x : Lexeme) → Keeps (operand_after n parts fs x) ExpIs
  unfolding operand_after
  operand_keeps fs x = operand_by_keeps fs x (starts_prefix (word x))

  side_keeps : (fs : Fixities) (chain : Chain) → Keeps (side parts fs chain) ExpIs
  side_keeps fs chain.Conjunction = it.operand fs
  side_keeps fs chain.Disjunction = it.conjunction fs

  link_is : (chain : Chain) (place : At) (left right : FullExp) → is_sound (exp_binds left) ≡ true
      → is_sound (exp_binds right) ≡ true → is_sound (exp_binds (link chain place left right)) ≡ true
  link_is chain.Conjunction place left right is so =
      exp_is (FullExp-F.AndAlso left right place) _ (e.rolls-AndAlso left right place) (both_true _ _ is so)
  link_is chain.Disjunction place left right is so =
      exp_is (FullExp-F.OrElse left right place) _ (e.rolls-OrElse left right place) (both_true _ _ is so)

  chained_keeps : (fs : Fixities) (place : At) (chain : Chain) (first : Tall FullExp) → ExpIs first
      → Keeps (chained n parts fs place chain first) ExpIs
  unfolding chained beside
  chained_keeps fs place chain first is =
      keep_many (λ left x so. keep_within (λ _. keep_bind (side_keeps fs chain) (λ right too.
      keep_pure _ (link_is chain place left.tree right.tree so too)))) first is

  conjunction_keeps : (fs : Fixities) (x : Lexeme) → Keeps (conjunction_after n parts fs x) ExpIs
  unfolding conjunction_after
  conjunction_keeps fs x =
      keep_bind (operand_keeps fs x) (λ first is. chained_keeps fs (at x) chain.Conjunction first is)

  pub operand_of_keeps : (fs : Fixities) → Keeps (operand_of n parts fs) ExpIs
  unfolding operand_of
  operand_of_keeps fs = keep_then (λ x. operand_keeps fs x)

  pub conjunction_of_keeps : (fs : Fixities) → Keeps (conjunction_of n parts fs) ExpIs
  unfolding conjunction_of
  conjunction_of_keeps fs = keep_then (λ x. conjunction_keeps fs x)

  handled_keeps : (fs : Fixities) (place : At) (left : Tall FullExp) → ExpIs left
      → Keeps (handled n parts fs place left) ExpIs
  unfolding handled handle_exp
  handled_keeps fs place left is =
      keep_on (λ _. keep_within (λ _. keep_bind (rules_keep fs) (λ rules are.
      keep_pure _ (exp_is (FullExp-F.Handle left.tree rules.tree place) _
      (e.rolls-Handle left.tree rules.tree place) (both_true _ _ is are)))))
      (keep_pure left is)

  pub exp_of_keeps : (fs : Fixities) → Keeps (exp_of n parts fs) ExpIs
  unfolding exp_of disjunction_after
  exp_of_keeps fs =
      keep_then (λ x. keep_bind (keep_bind (conjunction_keeps fs x) (λ first is.
      chained_keeps fs (at x) chain.Disjunction first is)) (λ left so. handled_keeps fs (at x) left so))
