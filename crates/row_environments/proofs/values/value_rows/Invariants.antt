use Rattle.std.proofs.Common.{take}
use Rattle.sml_modules.specs.Adding.{Extends}
use Rattle.row_environments.specs.Placed.{AreValues}
use Rattle.row_environments.specs.Answers.{ValuesPlaced}
use Rattle.row_environments.proofs.values.value_rows.Given as goal

abbrev pub invariant-loop-row : goal.invariant-loop-row
invariant-loop-row l = record {
  extends : Extends l.fn.graph l.graph;
  values : AreValues l.fn.entries.schemes l.graph.items l.places;
  rows : ValuesPlaced l.fn.entries l.graph.items (take l.row-index l.fn.table) l.rows;
}
