use Rattle.std.proofs.Common.{◌≡◌, drop}
use Rattle.environment_walks.specs.Owners.{with_owners, owners_of}
use Rattle.environment_walks.proofs.owners.Owners.of.Given as goal

abbrev pub invariant-loop-replace : goal.invariant-loop-replace
invariant-loop-replace l =
    with_owners l.owners (drop l.replace-index l.fn.by.list) ≡ owners_of l.fn.by.list
