use Rattle.std.proofs.Common.{rules}
use Rattle.type_walks.proofs.Imaging.{if_ok}
use Rattle.row_entries.proofs.Cons.{structure_formed, structure_never, structure_tagged}
use Rattle.row_entries.proofs.structures.structure_row.Goals as goal

pub returns-in-Some : goal.returns-in-Some
returns-in-Some c =
    if_ok c.structure_over.result c.structure_over.ensures
    (λ found h. structure_formed c.args.rows.now c.args.row.now c.as_slice.result.now c.in-Some.form found c.in-7.is
    c.as_slice.ensures (rw c.in-Some.is at c.in_ok-form-in-7.ensures) h)

pub returns-in-None : goal.returns-in-None
returns-in-None c =
    structure_never c.args.rows.now c.args.row.now c.as_slice.result.now c.as_slice.ensures
    (rw c.in-None.is at c.in_ok-form-in-7.ensures)

pub returns-in_default : goal.returns-in_default
returns-in_default c = structure_tagged c.args.rows.now c.args.row.now (search rules)
