use Rattle.std.proofs.Common.{◌≡◌, drop}
use Rattle.cm_conditions.specs.Tables.{table_def, table_module}
use Rattle.cm_conditions.specs.Taking.{after_all, start}
use Rattle.cm_conditions.specs.Values.{value_by}
use Rattle.cm_conditions.proofs.selection.items_of.Given as goal

-- the lines that are left make of what was chosen what all make
abbrev pub invariant-loop-line : goal.invariant-loop-line
invariant-loop-line l =
    let value = value_by (table_def l.names) (table_module l.names) in
    after_all value (drop l.line-index l.lines) l.selection ≡ after_all value l.fn.lines start
