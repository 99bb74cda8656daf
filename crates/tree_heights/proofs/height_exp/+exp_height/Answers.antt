use Rattle.std.proofs.Common.{◌≡◌, IfOk, refl, sym, subst, ◌∙◌, arith}
use Rattle.std.proofs.lemmas.Grind.{common_steps}
use Rattle.tree_heights.specs.NodeHeights.{joined_exp_height, applied_exp_height, missing_exp_height}
use Rattle.tree_heights.specs.FullExpHeights.{full_exp, full_item, full_field, full_rule, full_clause, full_fun_bind, full_val_bind, full_dec}
use Rattle.tree_heights.proofs.Highest.{higher_step}
use Rattle.bare_forms.proofs.Bound.{atom_step, operator_step, run_end}
use Rattle.tree_heights.proofs.ExpHeights.{full_field-kept, full_item-Atom, full_item-Operator}
use Rattle.tree_heights.proofs.height_exp.+exp_height.Goals as goal
use Rattle.tree_heights.proofs.height_exp.+exp_height.Goals.{exp_run_height-in-Atom+in_ok-run_exp-in-Atom+in_ok-continued-in-Atom, exp_run_height-in-Operator+in_ok-operator-in-Operator+in_ok-push-in-Operator}

pub highest_exp-loop-exp-preserved : goal.highest_exp-loop-exp-preserved
highest_exp-loop-exp-preserved t c =
    higher_step full_exp c.args.exps.now c.loop-exp.exp-index c.exp-item.result c.loop-exp.made
    c.in_ok-exp_height.field-0 c.max-made.result _ c.loop-exp-test.true c.exp-item.is c.in_ok-exp_height.ensures
    c.max-made.ensures c.loop-exp.invariant

pub fields_height-loop-field-preserved : goal.fields_height-loop-field-preserved
fields_height-loop-field-preserved t c =
    higher_step full_field c.args.fields.now c.loop-field.field-index c.field-item.result c.loop-field.made
    c.in_ok-exp_height.field-0 c.max-made.result _ c.loop-field-test.true c.field-item.is (c.in_ok-exp_height.ensures ∙ sym (full_field-kept c.field-item.result))
    c.max-made.ensures c.loop-field.invariant

pub rules_height-loop-rule-preserved : goal.rules_height-loop-rule-preserved
rules_height-loop-rule-preserved t c =
    higher_step full_rule c.args.rules.now c.loop-rule.rule-index c.rule-item.result c.loop-rule.made
    c.in_ok-rule_height.field-0 c.max-made.result _ c.loop-rule-test.true c.rule-item.is c.in_ok-rule_height.ensures
    c.max-made.ensures c.loop-rule.invariant

pub clauses_height-loop-clause-preserved : goal.clauses_height-loop-clause-preserved
clauses_height-loop-clause-preserved t c =
    higher_step full_clause c.args.clauses.now c.loop-clause.clause-index c.clause-item.result c.loop-clause.made
    c.in_ok-clause_height.field-0 c.max-made.result _ c.loop-clause-test.true c.clause-item.is c.in_ok-clause_height.ensures
    c.max-made.ensures c.loop-clause.invariant

pub fun_binds_height-loop-bind-preserved : goal.fun_binds_height-loop-bind-preserved
fun_binds_height-loop-bind-preserved t c =
    higher_step full_fun_bind c.args.binds.now c.loop-bind.bind-index c.bind-item.result c.loop-bind.made
    c.in_ok-fun_bind_height.field-0 c.max-made.result _ c.loop-bind-test.true c.bind-item.is c.in_ok-fun_bind_height.ensures
    c.max-made.ensures c.loop-bind.invariant

pub val_binds_height-loop-bind-preserved : goal.val_binds_height-loop-bind-preserved
val_binds_height-loop-bind-preserved t c =
    higher_step full_val_bind c.args.binds.now c.loop-bind.bind-index c.bind-item.result c.loop-bind.made
    c.in_ok-val_bind_height.field-0 c.max-made.result _ c.loop-bind-test.true c.bind-item.is c.in_ok-val_bind_height.ensures
    c.max-made.ensures c.loop-bind.invariant

pub decs_height-loop-dec-preserved : goal.decs_height-loop-dec-preserved
decs_height-loop-dec-preserved t c =
    higher_step full_dec c.args.decs.now c.loop-dec.dec-index c.dec-item.result c.loop-dec.made
    c.in_ok-dec_height.field-0 c.max-made.result _ c.loop-dec-test.true c.dec-item.is c.in_ok-dec_height.ensures
    c.max-made.ensures c.loop-dec.invariant

pub exp_run_height-loop-item-preserved : goal.exp_run_height-loop-item-preserved
exp_run_height-loop-item-preserved t c = elim c.match-item.branch [
  | exp_run_height-in-Atom+in_ok-run_exp-in-Atom+in_ok-continued-in-Atom w ↦
      atom_step joined_exp_height applied_exp_height missing_exp_height full_item c.args.items.now
      c.loop-item.item-index c.item-item.result w.in_ok-run_exp-in-Atom.field-0 w.in_ok-continued-in-Atom.field-0
      c.loop-item.before.items c.match-item.before.items c.loop-item.begun c.match-item.begun _ c.loop-item-test.true
      c.item-item.is
      (grind (arith, common_steps, w.in-Atom.is, full_item-Atom, w.in_ok-run_exp-in-Atom.ensures))
      w.in_ok-continued-in-Atom.ensures w.begun-is (rw w.before-is refl) c.loop-item.invariant
  | exp_run_height-in-Operator+in_ok-operator-in-Operator+in_ok-push-in-Operator w ↦
      operator_step joined_exp_height applied_exp_height missing_exp_height full_item c.args.items.now
      c.loop-item.item-index c.item-item.result
      (record { name = w.in-Operator.name; fixity = w.in-Operator.fixity }) c.loop-item.before.items
      c.match-item.before.items c.loop-item.begun c.match-item.begun _ c.loop-item-test.true c.item-item.is
      (grind (arith, common_steps, w.in-Operator.is, full_item-Operator)) w.begun-is
      (grind (arith, common_steps, w.before-is, w.operand.ensures, w.in_ok-operator-in-Operator.ensures, w.in_ok-push-in-Operator.ensures))
      c.loop-item.invariant
]

pub exp_run_height-returns : goal.exp_run_height-returns
exp_run_height-returns t c =
    subst (λ x. IfOk c.bind_all.result (λ made. made ≡ x))
    (run_end joined_exp_height applied_exp_height missing_exp_height full_item c.args.items.now
    c.loop-item.item-index c.loop-item.before.items c.loop-item.begun c.operand-last.result _ c.loop-item-test.false
    c.operand-last.ensures c.loop-item.invariant)
    c.bind_all.ensures
