use Rattle.row_entries.proofs.Adding.{entries_none}
use Rattle.row_entries.proofs.rows.EntryRows.new.Goals as goal

pub returns : goal.returns
returns c = λ home.
    entries_none home (record { types = c.new.result; functions = c.new-2.result; schemes = c.new-3.result })
    (c.new.ensures home) c.new-2.ensures c.new-3.ensures
