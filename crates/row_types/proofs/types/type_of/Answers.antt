use Rattle.row_types.proofs.Parts.{at_tag}
use Rattle.row_types.proofs.types.type_of.Goals as goal

pub returns-in-1 : goal.returns-in-1
returns-in-1 c =
    at_tag c.args.home.now c.args.row.now.tag 1 c.args.row.now.items c.as_slice-items.result.now c.args.rows.now
    c.variable_of.result c.in-1.is c.as_slice-items.ensures (c.variable_of.ensures c.args.home.now c.args.rows.now)
