use Rattle.type_nodes.specs.Tables.{state}
use Rattle.sml_types.specs.Covering.{AreFrozen, Follows}
use Rattle.sml_types.proofs.covers.freeze_each.Given as goal

abbrev pub invariant-loop-variable : goal.invariant-loop-variable
invariant-loop-variable l = record {
  frozen : AreFrozen l.fn.own (state l.fn.table) (state l.table) l.fn.variables l.variable-index;
  follows : Follows l.fn.table l.table;
}
