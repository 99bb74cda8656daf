use Rattle.std.proofs.Common.{◌≡◌, take}
use Rattle.project_checks.specs.Assembly.{homes_of}
use Rattle.project_checks.proofs.assembling.homes_of.Given as goal

abbrev pub invariant-loop-number : goal.invariant-loop-number
invariant-loop-number l = l.homes.items ≡ homes_of (take l.number l.units)
