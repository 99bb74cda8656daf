use Rattle.table_schemes.specs.Meaning.{IsTableScheme}
use Rattle.table_cases.proofs.growing.entered_instances.Given as goal

-- the table has the scheme still
abbrev pub invariant-loop : goal.invariant-loop
invariant-loop l = IsTableScheme l.table l.fn.scheme l.entered
