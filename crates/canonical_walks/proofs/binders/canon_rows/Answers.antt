use Rattle.canonical_walks.proofs.Canons.{rows_canon}
use Rattle.canonical_walks.proofs.binders.canon_rows.Goals as goal

pub returns-clause-rows : goal.returns-clause-rows
returns-clause-rows c = rows_canon c.args.own.now c.args.graph.now c.note_binders.new.graph c.in_ok-made.made
    c.args.rows.now c.mapped_rows.result c.note_binders.ensures.extends c.in_ok-made.ensures.canon
    c.mapped_rows.ensures
