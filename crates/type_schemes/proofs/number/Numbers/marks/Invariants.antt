use Rattle.std.proofs.Common.{◌≡◌, ◌++◌, drop, map}
use Rattle.type_nodes.specs.Tables.{state}
use Rattle.type_schemes.proofs.number.Numbers.marks.Given as goal

abbrev pub invariant-loop-variable : goal.invariant-loop-variable
invariant-loop-variable l =
    l.marks ++ map (state l.fn.table).marks (drop l.variable-index l.fn.self.variables)
    ≡ map (state l.fn.table).marks l.fn.self.variables
