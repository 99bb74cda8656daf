use Rattle.std.proofs.Common.{◌≡◌, drop}
use Rattle.realisation.specs.Names.{is_listed}
use Rattle.where_types.proofs.checks.is_listed.Given as goal

abbrev pub invariant-loop-other : goal.invariant-loop-other
invariant-loop-other l = is_listed l.name (drop l.other-index l.names) ≡ is_listed l.name l.names
