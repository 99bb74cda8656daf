use Rattle.std.proofs.Common.{rules}
use Rattle.type_walks.proofs.Imaging.{if_ok}
use Rattle.interface_restoring.proofs.Units.{top_formed, top_never, top_tagged}
use Rattle.interface_restoring.proofs.tops.top_row.Goals as goal

pub returns-in-Some-clause-is : goal.returns-in-Some-clause-is
returns-in-Some-clause-is c =
    if_ok c.top_over.result c.top_over.ensures.is
    (λ found h. top_formed c.args.rows.now c.args.graph.now.items c.top_over.new.graph.items c.args.row.now
    c.as_slice.result.now c.in-Some.form found c.in-11.is c.as_slice.ensures
    (rw c.in-Some.is at c.in_ok-form-in-11.ensures) h)

pub returns-in-None-clause-is : goal.returns-in-None-clause-is
returns-in-None-clause-is c =
    top_never c.args.rows.now c.args.graph.now.items c.args.graph.now.items c.args.row.now c.as_slice.result.now
    c.as_slice.ensures (rw c.in-None.is at c.in_ok-form-in-11.ensures)

pub returns-in_default-clause-is : goal.returns-in_default-clause-is
returns-in_default-clause-is c =
    top_tagged c.args.rows.now c.args.graph.now.items c.args.graph.now.items c.args.row.now (search rules)
