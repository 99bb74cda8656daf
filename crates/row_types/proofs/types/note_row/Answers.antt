use Rattle.row_types.proofs.Added.{type_added, none_added}
use Rattle.row_types.proofs.types.note_row.Goals as goal

pub returns-in_ok-add-in-Some-2 : goal.returns-in_ok-add-in-Some-2
returns-in_ok-add-in-Some-2 c =
    type_added c.args.home.now c.args.rows.now (record { nodes = c.add.new.self; told = c.add-in-Some.new.self })
    c.args.row.now c.in-Some.node (rw c.in-Some.is at c.in_ok-node.ensures) c.in_ok-add-in-Some.ensures.ok
    c.in_ok-add-in-Some-2.ensures.ok

pub returns-in_ok-add-in-None-2 : goal.returns-in_ok-add-in-None-2
returns-in_ok-add-in-None-2 c =
    none_added c.args.home.now c.args.rows.now
    (record { nodes = c.add-in-None.new.self; told = c.add-in-None-2.new.self }) c.args.row.now
    (rw c.in-None.is at c.in_ok-node.ensures) c.in_ok-add-in-None.ensures.ok c.in_ok-add-in-None-2.ensures.ok
