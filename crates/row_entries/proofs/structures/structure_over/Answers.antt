use Rattle.std.proofs.Common.{ap, sym, subst, map, ◌∙◌}
use Rattle.interface_format.specs.Rules.{AreNames}
use Rattle.row_types.specs.Told.{name_of}
use Rattle.row_entries.proofs.Found.{not_so, is_so}
use Rattle.row_entries.proofs.Cons.{told_none, told_some, cons_none, cons_some, structure_lacks, structure_names, structure_cons, structure_found}
use Rattle.row_entries.proofs.structures.structure_over.Goals as goal

pub returns-in_default : goal.returns-in_default
returns-in_default c =
    structure_lacks c.args.rows.now c.args.form.now
    (told_none c.args.rows.now.functions c.args.form.now.function c.in_ok-function.field-0.now c.in_ok-function.ensures
    (λ x e. c.in_default.not-Some x e))

pub returns-then-not-are_names : goal.returns-then-not-are_names
returns-then-not-are_names c =
    structure_names c.args.rows.now c.args.form.now
    (λ k. not_so c.are_names.result c.are_names.ensures c.if-not-are_names.true
    (subst AreNames
    (sym (c.as_slice-2.ensures ∙ c.in_ok-names.ensures ∙ ap (map name_of) c.as_slice.ensures)) k))

pub returns-in_default-2 : goal.returns-in_default-2
returns-in_default-2 c =
    structure_cons c.args.rows.now c.args.form.now
    (cons_none c.args.rows.now c.as_slice-3.result.now c.args.form.now.cons c.in_ok-cons.field-0 c.in_ok-cons.ensures
    c.as_slice-3.ensures (λ x e. c.in_default-2.not-Some x e))

pub returns : goal.returns
returns c =
    structure_found c.args.rows.now c.args.form.now c.in_ok-copied.copied c.in-Some-2.cons
    (told_some c.args.rows.now.functions c.args.form.now.function c.in_ok-function.field-0.now c.in-Some.function
    c.in_ok-copied.copied c.in_ok-function.ensures c.in-Some.is c.in_ok-copied.ensures)
    (subst AreNames (c.as_slice-2.ensures ∙ c.in_ok-names.ensures ∙ ap (map name_of) c.as_slice.ensures)
    (is_so c.are_names.result c.are_names.ensures c.if-not-are_names.false))
    (cons_some c.args.rows.now c.as_slice-3.result.now c.args.form.now.cons c.in_ok-cons.field-0 c.in-Some-2.cons
    c.in_ok-cons.ensures c.as_slice-3.ensures c.in-Some-2.is)
