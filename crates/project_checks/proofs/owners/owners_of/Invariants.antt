use Rattle.std.proofs.Common.{◌≡◌, ◌++◌, ℕ, List, length}
use Rattle.project_checks.specs.Owning.{ArePassed}
use Rattle.project_checks.proofs.owners.owners_of.Given as goal

-- the groups behind those that are left had their turns
abbrev pub invariant-loop-number : goal.invariant-loop-number
invariant-loop-number l =
    (done : List ℕ) × (l.fn.finished ≡ l.rest ++ done) × ArePassed l.groups l.fn.finished done l.owners.items

abbrev pub decreases-loop-number : goal.decreases-loop-number
decreases-loop-number l = length l.rest
