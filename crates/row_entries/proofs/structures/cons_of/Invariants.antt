use Rattle.std.proofs.Common.{ℕ, List, take}
use Rattle.node_bytes.specs.Nodes.{Node}
use Rattle.interface_nodes.specs.Fields.{rows_at}
use Rattle.row_entries.specs.Told.{AreEntries, IsSchemeOf, RowsAre, con_rows}
use Rattle.row_entries.proofs.structures.cons_of.Given as goal

abbrev pub invariant-loop-row : goal.invariant-loop-row
invariant-loop-row l = (home : List ℕ) (made : List Node) → AreEntries home made l.fn.rows
    → RowsAre (IsSchemeOf home) (rows_at made (take l.row-index l.fn.table)) (con_rows l.cons)
