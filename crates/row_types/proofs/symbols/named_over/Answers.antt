use Rattle.std.proofs.Common.{sym, ◌∙◌}
use Rattle.row_types.proofs.Parts.{types_hold, types_lack}
use Rattle.row_types.proofs.Found.{named_lacks, named_found}
use Rattle.row_types.proofs.symbols.named_over.Goals as goal

pub returns-then-not-branch : goal.returns-then-not-branch
returns-then-not-branch c = λ home.
    named_lacks home c.args.name c.args.args c.args.rows.now
    (types_lack c.args.rows.now c.as_slice.result.now c.args.args c.in_ok-are_types.field-0 c.in_ok-are_types.ensures
    c.as_slice.ensures c.if-not-branch.true home)

pub returns : goal.returns
returns c = λ home.
    named_found home c.args.name c.args.args c.args.rows.now (sym c.len.ensures ∙ c.if-len-name.false)
    (types_hold c.args.rows.now c.as_slice.result.now c.args.args c.in_ok-are_types.field-0 c.in_ok-are_types.ensures
    c.as_slice.ensures c.if-not-branch.false home)
