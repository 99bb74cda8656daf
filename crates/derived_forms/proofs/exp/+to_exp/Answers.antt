use Rattle.std.proofs.Common.{◌≡◌, IfOk, refl, subst, ◌∙◌, arith}
use Rattle.std.proofs.lemmas.Grind.{common_steps}
use Rattle.bare_forms.specs.declared.placed.PlacedExp.{PlacedExp}
use Rattle.bare_forms.specs.Nodes.{joined_exp, applied_exp, missing_exp}
use Rattle.bare_forms.specs.Expressions.{bare_item}
use Rattle.bare_forms.proofs.Bound.{atom_step, operator_step, run_end}
use Rattle.bare_forms.proofs.Pairs.{pair_first, pair_second, pushed_is}
use Rattle.bare_forms.proofs.ExpLevels.{bare_item-Atom, bare_item-Operator}
use Rattle.derived_forms.proofs.exp.+to_exp.Goals as goal
use Rattle.derived_forms.proofs.exp.+to_exp.Goals.{to_run-in-Atom+in_ok-run-in-Atom+in_ok-run-in-Atom-2, to_run-in-Operator+in_ok-run-in-Operator+in_ok-before-in-Operator}

pub to_run-loop-item-preserved : goal.to_run-loop-item-preserved
to_run-loop-item-preserved t c = elim c.match-item.branch [
  | to_run-in-Atom+in_ok-run-in-Atom+in_ok-run-in-Atom-2 w ↦
      let held = w.in_ok-run-in-Atom.ensures.held in
      atom_step joined_exp applied_exp (missing_exp c.args.at) bare_item c.args.items.now c.loop-item.item-index
      c.item-item.result w.in_ok-run-in-Atom.exp w.in_ok-run-in-Atom-2.exp c.loop-item.before.items
      c.match-item.before.items c.loop-item.begun c.match-item.begun _ c.loop-item-test.true c.item-item.is
      (grind (arith, common_steps, w.in-Atom.is, bare_item-Atom, w.in_ok-run-in-Atom.ensures.made, w.to_placed.ensures))
      (grind (arith, common_steps, pair_second _ _ _ _ held, w.in_ok-run-in-Atom-2.ensures.made, w.continued.ensures))
      w.begun-is
      (rw (w.before-is ∙ w.in_ok-run-in-Atom-2.ensures.held ∙ pair_first _ _ _ _ held) refl)
      c.loop-item.invariant
  | to_run-in-Operator+in_ok-run-in-Operator+in_ok-before-in-Operator w ↦
      let held = w.in_ok-run-in-Operator.ensures.held in
      operator_step joined_exp applied_exp (missing_exp c.args.at) bare_item c.args.items.now c.loop-item.item-index
      c.item-item.result w.in_ok-run-in-Operator.operator c.loop-item.before.items c.match-item.before.items
      c.loop-item.begun c.match-item.begun _ c.loop-item-test.true c.item-item.is
      (grind (arith, common_steps, w.in-Operator.is, bare_item-Operator, w.in_ok-run-in-Operator.ensures.made, w.operator_of.ensures))
      w.begun-is
      (rw w.before-is
      (pushed_is w.in_ok-before-in-Operator.before.items _ c.loop-item.before.items _ c.loop-item.begun
      w.operand.result (missing_exp c.args.at) w.in_ok-run-in-Operator.operator w.in_ok-before-in-Operator.ensures
      (rw (pair_first _ _ _ _ held) refl) w.operand.ensures (pair_second _ _ _ _ held)))
      c.loop-item.invariant
]

pub to_run-returns : goal.to_run-returns
to_run-returns t c =
    subst (λ (x : PlacedExp). IfOk c.run_exp.result (λ made. made ≡ x.exp))
    (run_end joined_exp applied_exp (missing_exp c.args.at) bare_item c.args.items.now c.loop-item.item-index
    c.loop-item.before.items c.loop-item.begun _ _ c.loop-item-test.false refl c.loop-item.invariant)
    c.run_exp.ensures
