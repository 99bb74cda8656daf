use Rattle.type_nodes.specs.Tables.{Has}
use Rattle.table_cases.proofs.growing.unify_times.Given as goal

abbrev pub invariant-loop : goal.invariant-loop
invariant-loop l = record {
  left : Has l.table l.fn.left;
  right : Has l.table l.fn.right;
}
