use Rattle.std.proofs.Common.{◌≡◌, replicate}
use Rattle.project_checks.specs.declared.owners.Owned.TheVariants as owned
use Rattle.project_checks.proofs.owners.unowned.Given as goal

abbrev pub invariant-loop-at : goal.invariant-loop-at
invariant-loop-at l = l.owners.items ≡ replicate l._at owned.Nobody
