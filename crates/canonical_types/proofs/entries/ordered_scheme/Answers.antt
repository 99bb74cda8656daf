use Rattle.std.proofs.Common.{sym, ap, ◌∙◌, length, subst}
use Rattle.std.proofs.lemmas.List.{length-map}
use Rattle.semantic_objects.specs.Trees.{BindsBelow}
use Rattle.unification.specs.Instances.{mark_of}
use Rattle.canonical_types.proofs.Told.{in_order, scheme_ordered}
use Rattle.canonical_types.proofs.entries.ordered_scheme.Goals as goal

pub make-requires : goal.make-requires
make-requires c = subst (BindsBelow (length c.in_ok-marks.marks)) (sym c.in_ok-body.ensures)
    (in_order c.args.body.now c.in_ok-variables.variables (length c.in_ok-marks.marks) c.in_ok-variables.ensures
    (sym (ap length c.in_ok-marks.ensures ∙ length-map c.in_ok-variables.variables (mark_of c.args.marks.now))))

pub returns : goal.returns
returns c = scheme_ordered c.args.marks.now c.args.body.now c.in_ok-variables.variables c.in_ok-marks.marks
    c.in_ok-body.body c.make.result c.in_ok-variables.ensures c.in_ok-marks.ensures c.in_ok-body.ensures
    c.make.ensures.marks c.make.ensures.body
