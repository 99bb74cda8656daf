use Rattle.std.proofs.Common.{ap, subst, ◌∙◌}
use Rattle.semantic_objects.specs.Nodes.{tree_at}
use Rattle.row_types.specs.Told.{Stands}
use Rattle.row_entries.proofs.Found.{function_lacks, function_beyond, function_found, not_so, is_so}
use Rattle.row_entries.proofs.functions.function_over.Goals as goal

pub returns-then-not-branch : goal.returns-then-not-branch
returns-then-not-branch c =
    function_lacks c.args.types.now c.args.form
    (subst (Stands c.args.types.now c.args.form.place) c.if-not-branch.true c.in_ok-is_type.ensures)

pub returns-then-not-branch-2 : goal.returns-then-not-branch-2
returns-then-not-branch-2 c =
    function_beyond c.args.types.now c.args.form c.in_ok-body.body
    (subst (Stands c.args.types.now c.args.form.place) c.if-not-branch.false c.in_ok-is_type.ensures)
    (c.in_ok-body.ensures ∙ ap (λ z. tree_at z c.args.form.place) c.as_slice.ensures)
    (not_so c.in_ok-are_among.field-0 c.in_ok-are_among.ensures c.if-not-branch-2.true)

pub returns : goal.returns
returns c =
    function_found c.args.types.now c.args.form c.in_ok-body.body
    (subst (Stands c.args.types.now c.args.form.place) c.if-not-branch.false c.in_ok-is_type.ensures)
    (c.in_ok-body.ensures ∙ ap (λ z. tree_at z c.args.form.place) c.as_slice.ensures)
    (is_so c.in_ok-are_among.field-0 c.in_ok-are_among.ensures c.if-not-branch-2.false)
