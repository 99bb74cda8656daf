use Rattle.std.proofs.Common.{◌≡◌, IfOk, refl, ap, subst, arith}
use Rattle.std.proofs.lemmas.Grind.{common_steps}
use Rattle.tree_heights.specs.NodeHeights.{joined_pat_height, applied_pat_height, missing_pat_height}
use Rattle.tree_heights.specs.declared.height_pat.PatHeight.{PatHeight}
use Rattle.tree_heights.specs.FullHeights.{height_of_pat, full_pat_field, full_pat_item}
use Rattle.tree_heights.proofs.Highest.{higher_step}
use Rattle.bare_forms.proofs.Bound.{atom_step, operator_step, run_end}
use Rattle.tree_heights.proofs.PatHeights.{full_pat_item-Atom, full_pat_item-Operator}
use Rattle.tree_heights.proofs.height_pat.+pat_height.Goals as goal
use Rattle.tree_heights.proofs.height_pat.+pat_height.Goals.{pat_run_height-in-Atom+in_ok-pat_height-in-Atom+in_ok-continued-in-Atom, pat_run_height-in-Operator+in_ok-operator-in-Operator+in_ok-push-in-Operator}

pub highest_pat-loop-pat-preserved : goal.highest_pat-loop-pat-preserved
highest_pat-loop-pat-preserved t c =
    higher_step height_of_pat c.args.pats.now c.loop-pat.pat-index c.pat-item.result c.loop-pat.made
    c.in_ok-pat_height.field-0.height c.max-made.result _ c.loop-pat-test.true c.pat-item.is
    (ap (λ (p : PatHeight). p.height) c.in_ok-pat_height.ensures) c.max-made.ensures c.loop-pat.invariant

pub pat_fields_height-loop-field-preserved : goal.pat_fields_height-loop-field-preserved
pat_fields_height-loop-field-preserved t c =
    higher_step full_pat_field c.args.fields.now c.loop-field.field-index c.field-item.result c.loop-field.made
    c.in_ok-pat_field_height.field-0 c.max-made.result _ c.loop-field-test.true c.field-item.is c.in_ok-pat_field_height.ensures
    c.max-made.ensures c.loop-field.invariant

pub pat_run_height-loop-item-preserved : goal.pat_run_height-loop-item-preserved
pat_run_height-loop-item-preserved t c = elim c.match-item.branch [
  | pat_run_height-in-Atom+in_ok-pat_height-in-Atom+in_ok-continued-in-Atom w ↦
      atom_step joined_pat_height applied_pat_height missing_pat_height full_pat_item c.args.items.now
      c.loop-item.item-index c.item-item.result w.in_ok-pat_height-in-Atom.field-0 w.in_ok-continued-in-Atom.field-0
      c.loop-item.before.items c.match-item.before.items c.loop-item.begun c.match-item.begun _ c.loop-item-test.true
      c.item-item.is
      (grind (arith, common_steps, w.in-Atom.is, full_pat_item-Atom, w.in_ok-pat_height-in-Atom.ensures))
      w.in_ok-continued-in-Atom.ensures w.begun-is (rw w.before-is refl) c.loop-item.invariant
  | pat_run_height-in-Operator+in_ok-operator-in-Operator+in_ok-push-in-Operator w ↦
      operator_step joined_pat_height applied_pat_height missing_pat_height full_pat_item c.args.items.now
      c.loop-item.item-index c.item-item.result
      (record { name = w.in-Operator.name; fixity = w.in-Operator.fixity }) c.loop-item.before.items
      c.match-item.before.items c.loop-item.begun c.match-item.begun _ c.loop-item-test.true c.item-item.is
      (grind (arith, common_steps, w.in-Operator.is, full_pat_item-Operator)) w.begun-is
      (grind (arith, common_steps, w.before-is, w.operand.ensures, w.in_ok-operator-in-Operator.ensures, w.in_ok-push-in-Operator.ensures))
      c.loop-item.invariant
]

pub pat_run_height-returns : goal.pat_run_height-returns
pat_run_height-returns t c =
    subst (λ x. IfOk c.bind_all.result (λ made. made ≡ x))
    (run_end joined_pat_height applied_pat_height missing_pat_height full_pat_item c.args.items.now
    c.loop-item.item-index c.loop-item.before.items c.loop-item.begun c.operand-last.result _ c.loop-item-test.false
    c.operand-last.ensures c.loop-item.invariant)
    c.bind_all.ensures
