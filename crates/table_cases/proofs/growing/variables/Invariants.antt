use Rattle.type_schemes.specs.Schemes.{HaveAll}
use Rattle.table_cases.proofs.growing.variables.Given as goal

abbrev pub invariant-loop : goal.invariant-loop
invariant-loop l = HaveAll l.table l.ids
