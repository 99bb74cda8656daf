use Rattle.node_bytes.specs.Tables.{row_node}
use Rattle.row_environments.proofs.Placing.{type_placed, type_none}
use Rattle.row_environments.proofs.environments.type_row.Goals as goal

pub returns-in_default-clause-is : goal.returns-in_default-clause-is
returns-in_default-clause-is c = λ home made told.
    type_none home (row_node made c.args.row.now) c.args.graph.now.items c.in_ok-entry.field-0 (c.in_ok-entry.ensures home made told)
    (λ entry e. c.in_default.not-Some entry e)

pub returns-clause-is : goal.returns-clause-is
returns-clause-is c = λ home made told.
    type_placed home (row_node made c.args.row.now) c.add.new.self.items c.in_ok-place.place c.in_ok-entry.field-0
    c.in-Some.entry (c.in_ok-entry.ensures home made told) c.in-Some.is c.in_ok-place.ensures.ok.stands
