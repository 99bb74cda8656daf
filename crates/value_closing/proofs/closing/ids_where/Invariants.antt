use Rattle.std.proofs.Common.{◌≡◌, ◌++◌, drop}
use Rattle.type_schemes.specs.Schemes.{HaveAll}
use Rattle.value_closing.specs.Closings.{ids_where}
use Rattle.value_closing.proofs.closing.ids_where.Given as goal

-- what was added, and the variables that are left
abbrev pub invariant-loop-variable : goal.invariant-loop-variable
invariant-loop-variable l = record {
  left : l.ids ++ ids_where l.closes (drop l.variable-index l.variables) ≡ ids_where l.closes l.variables;
  has : HaveAll l.t l.ids;
}
