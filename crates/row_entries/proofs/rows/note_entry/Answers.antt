use Rattle.row_entries.proofs.Adding.{entry_added}
use Rattle.row_entries.proofs.rows.note_entry.Goals as goal

pub returns : goal.returns
returns c =
    entry_added c.args.home.now c.args.rows.now
    (record { types = c.note_row.new.rows; functions = c.add.new.self; schemes = c.add-2.new.self }) c.args.row.now
    c.in_ok-function.function c.in_ok-scheme.scheme c.in_ok-note_row.field-0 c.in_ok-function.ensures
    c.in_ok-scheme.ensures c.in_ok-note_row.ensures c.in_ok-add.ensures.ok c.in_ok-add-2.ensures.ok
