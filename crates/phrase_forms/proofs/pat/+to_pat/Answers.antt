use Rattle.std.proofs.Common.{◌≡◌, IfOk, refl, subst, ◌∙◌, arith}
use Rattle.std.proofs.lemmas.Grind.{common_steps}
use Rattle.bare_forms.specs.Patterns.{joined_pat, applied_pat, missing_pat, bare_pat_item}
use Rattle.bare_forms.proofs.Bound.{atom_step, operator_step, run_end}
use Rattle.bare_forms.proofs.Pairs.{pair_first, pair_second, pushed_is}
use Rattle.bare_forms.proofs.PatLevels.{bare_pat_item-Atom, bare_pat_item-Operator}
use Rattle.phrase_forms.proofs.pat.+to_pat.Goals as goal
use Rattle.phrase_forms.proofs.pat.+to_pat.Goals.{to_pat_run-in-Atom+in_ok-run-in-Atom+in_ok-run-in-Atom-2, to_pat_run-in-Operator+in_ok-run-in-Operator+in_ok-before-in-Operator}

pub to_pat_run-loop-item-preserved : goal.to_pat_run-loop-item-preserved
to_pat_run-loop-item-preserved t c = elim c.match-item.branch [
  | to_pat_run-in-Atom+in_ok-run-in-Atom+in_ok-run-in-Atom-2 w ↦
      let held = w.in_ok-run-in-Atom.ensures.held in
      atom_step joined_pat applied_pat (missing_pat c.args.at) bare_pat_item c.args.items.now c.loop-item.item-index
      c.item-item.result w.in_ok-run-in-Atom.pat w.in_ok-run-in-Atom-2.pat c.loop-item.before.items
      c.match-item.before.items c.loop-item.begun c.match-item.begun _ c.loop-item-test.true c.item-item.is
      (grind (arith, common_steps, w.in-Atom.is, bare_pat_item-Atom, w.in_ok-run-in-Atom.ensures.made, w.to_pat.ensures))
      (grind (arith, common_steps, pair_second _ _ _ _ held, w.in_ok-run-in-Atom-2.ensures.made, w.continued.ensures))
      w.begun-is
      (rw (w.before-is ∙ w.in_ok-run-in-Atom-2.ensures.held ∙ pair_first _ _ _ _ held) refl)
      c.loop-item.invariant
  | to_pat_run-in-Operator+in_ok-run-in-Operator+in_ok-before-in-Operator w ↦
      let held = w.in_ok-run-in-Operator.ensures.held in
      operator_step joined_pat applied_pat (missing_pat c.args.at) bare_pat_item c.args.items.now c.loop-item.item-index
      c.item-item.result w.in_ok-run-in-Operator.operator c.loop-item.before.items c.match-item.before.items
      c.loop-item.begun c.match-item.begun _ c.loop-item-test.true c.item-item.is
      (grind (arith, common_steps, w.in-Operator.is, bare_pat_item-Operator, w.in_ok-run-in-Operator.ensures.made, w.operator_of.ensures))
      w.begun-is
      (rw w.before-is
      (pushed_is w.in_ok-before-in-Operator.before.items _ c.loop-item.before.items _ c.loop-item.begun
      w.operand.result (missing_pat c.args.at) w.in_ok-run-in-Operator.operator w.in_ok-before-in-Operator.ensures
      (rw (pair_first _ _ _ _ held) refl) w.operand.ensures (pair_second _ _ _ _ held)))
      c.loop-item.invariant
]

pub to_pat_run-returns : goal.to_pat_run-returns
to_pat_run-returns t c =
    subst (λ x. IfOk c.bind_all.result (λ made. made ≡ x))
    (run_end joined_pat applied_pat (missing_pat c.args.at) bare_pat_item c.args.items.now c.loop-item.item-index
    c.loop-item.before.items c.loop-item.begun c.operand-2.result _ c.loop-item-test.false c.operand-2.ensures
    c.loop-item.invariant)
    c.bind_all.ensures
