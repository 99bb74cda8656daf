use Rattle.std.proofs.Common.{rules}
use Rattle.type_walks.proofs.Imaging.{if_ok}
use Rattle.row_entries.proofs.Found.{scheme_formed, scheme_never, scheme_tagged}
use Rattle.row_entries.proofs.schemes.scheme_row.Goals as goal

pub returns-in-Some : goal.returns-in-Some
returns-in-Some c =
    if_ok c.scheme_over.result c.scheme_over.ensures
    (λ found h. scheme_formed c.args.types.now c.args.row.now c.as_slice.result.now c.in-Some.form found c.in-6.is
    c.as_slice.ensures (rw c.in-Some.is at c.in_ok-form-in-6.ensures) h)

pub returns-in-None : goal.returns-in-None
returns-in-None c =
    scheme_never c.args.types.now c.args.row.now c.as_slice.result.now c.as_slice.ensures
    (rw c.in-None.is at c.in_ok-form-in-6.ensures)

pub returns-in_default : goal.returns-in_default
returns-in_default c = scheme_tagged c.args.types.now c.args.row.now (search rules)
