use Rattle.std.proofs.Common.{take}
use Rattle.sml_modules.specs.Adding.{Extends}
use Rattle.interface_restoring.specs.Restored.{Notes}
use Rattle.interface_restoring.proofs.restoring.note_rows.Given as goal

abbrev pub invariant-loop-row : goal.invariant-loop-row
invariant-loop-row l = record {
  extends : Extends l.fn.graph l.graph;
  notes : Notes l.fn.home (take l.row-index l.fn.table) l.graph.items l.rows;
}
