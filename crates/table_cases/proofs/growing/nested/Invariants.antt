use Rattle.type_nodes.specs.Tables.{Has}
use Rattle.table_cases.proofs.growing.nested.Given as goal

abbrev pub invariant-loop : goal.invariant-loop
invariant-loop l = record {
  at : Has l.table l.at;
  inner : Has l.table l.fn.inner;
}
