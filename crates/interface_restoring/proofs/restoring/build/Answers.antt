use Rattle.std.proofs.Common.{rules, Some, None}
use Rattle.interface_restoring.proofs.Reading.{last_placed, no_rows, none_left, notes_have}
use Rattle.interface_restoring.proofs.restoring.build.Goals as goal

pub returns-in_default-clause-is : goal.returns-in_default-clause-is
returns-in_default-clause-is c = no_rows c.args.home.now c.args.table.now c.args.graph.now (none_left c.args.table.now (search rules))

pub top_row-requires : goal.top_row-requires
top_row-requires c = (
  c.args.home.now,
  notes_have c.args.home.now c.in-Some.before.now c.note_rows.new.graph.items c.in_ok-rows.rows
      c.in_ok-rows.ensures.notes,
)

pub returns-in-Some-2-clause-is : goal.returns-in-Some-2-clause-is
returns-in-Some-2-clause-is c =
    last_placed c.args.home.now c.in-Some.before.now c.args.table.now c.in-Some.last.now c.note_rows.new.graph.items
    c.top_row.new.graph.items c.in_ok-rows.rows c.in_ok-place.field-0 (Some c.in-Some-2.place) c.in-Some.ensures.cases.0
    c.in_ok-rows.ensures.notes c.in_ok-place.ensures.is c.in-Some-2.is

pub returns-clause-is : goal.returns-clause-is
returns-clause-is c =
    last_placed c.args.home.now c.in-Some.before.now c.args.table.now c.in-Some.last.now c.note_rows.new.graph.items
    c.top_row.new.graph.items c.in_ok-rows.rows c.in_ok-place.field-0 None c.in-Some.ensures.cases.0
    c.in_ok-rows.ensures.notes c.in_ok-place.ensures.is c.in-None.is
