use Rattle.std.proofs.Common.{ap, sym, subst, ◌∙◌}
use Rattle.semantic_objects.specs.Nodes.{tree_at}
use Rattle.row_types.specs.Told.{Stands}
use Rattle.row_entries.specs.Variables.{AreFirst}
use Rattle.row_entries.proofs.Among.{among_binds, first_among}
use Rattle.row_entries.proofs.Found.{scheme_lacks, scheme_unordered, scheme_found, not_so, is_so}
use Rattle.row_entries.proofs.schemes.scheme_over.Goals as goal

pub returns-then-not-branch : goal.returns-then-not-branch
returns-then-not-branch c =
    scheme_lacks c.args.types.now c.args.form
    (subst (Stands c.args.types.now c.args.form.place) c.if-not-branch.true c.in_ok-is_type.ensures)

pub returns-then-not-branch-2 : goal.returns-then-not-branch-2
returns-then-not-branch-2 c =
    scheme_unordered c.args.types.now c.args.form c.in_ok-body.body
    (subst (Stands c.args.types.now c.args.form.place) c.if-not-branch.false c.in_ok-is_type.ensures)
    (c.in_ok-body.ensures ∙ ap (λ z. tree_at z c.args.form.place) c.as_slice.ensures)
    (λ h. not_so c.in_ok-are_first.field-0 c.in_ok-are_first.ensures c.if-not-branch-2.true
    (subst (AreFirst c.in_ok-body.body) (sym c.len.ensures) h))

pub make-requires : goal.make-requires
make-requires c =
    among_binds _ c.in_ok-body.body
    (first_among _ c.in_ok-body.body
    (subst (AreFirst c.in_ok-body.body) c.len.ensures
    (is_so c.in_ok-are_first.field-0 c.in_ok-are_first.ensures c.if-not-branch-2.false)))

pub returns : goal.returns
returns c =
    scheme_found c.args.types.now c.args.form c.in_ok-body.body _
    (subst (Stands c.args.types.now c.args.form.place) c.if-not-branch.false c.in_ok-is_type.ensures)
    (c.in_ok-body.ensures ∙ ap (λ z. tree_at z c.args.form.place) c.as_slice.ensures)
    (subst (AreFirst c.in_ok-body.body) c.len.ensures
    (is_so c.in_ok-are_first.field-0 c.in_ok-are_first.ensures c.if-not-branch-2.false))
    c.in_ok-make.ensures.marks c.in_ok-make.ensures.body
