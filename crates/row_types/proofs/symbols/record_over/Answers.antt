use Rattle.std.proofs.Common.{sym, subst, ◌∙◌}
use Rattle.interface_format.specs.Rules.{AreNames}
use Rattle.row_types.proofs.Parts.{types_hold, types_lack, is_so}
use Rattle.row_types.proofs.Found.{record_lacks, record_found}
use Rattle.row_types.proofs.symbols.record_over.Goals as goal

pub returns-then-not-branch : goal.returns-then-not-branch
returns-then-not-branch c = λ home.
    record_lacks home c.args.table.now c.in_ok-names.places c.args.rows.now
    (sym c.in_ok-names.places-is ∙ c.in_ok-names.ensures.places)
    (types_lack c.args.rows.now c.as_slice-2.result.now c.in_ok-names.places c.in_ok-are_types.field-0
    c.in_ok-are_types.ensures (c.as_slice-2.ensures ∙ c.in_ok-names.places-is) c.if-not-branch.true home)

pub returns : goal.returns
returns c = λ home.
    record_found home c.args.table.now c.in_ok-names.field-0.names c.in_ok-names.field-0.places c.args.rows.now
    c.in_ok-names.ensures.names c.in_ok-names.ensures.places
    (subst AreNames c.as_slice.ensures (is_so c.are_names.result c.are_names.ensures c.if-not-are_names.false))
    (types_hold c.args.rows.now c.as_slice-2.result.now c.in_ok-names.field-0.places c.in_ok-are_types.field-0
    c.in_ok-are_types.ensures c.as_slice-2.ensures c.if-not-branch.false home)
