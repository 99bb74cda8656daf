use Rattle.std.proofs.Common.{◌≡◌, ◌++◌, List, length}
use Rattle.cm_description.specs.declared.loaded.Group.{Group}
use Rattle.project_checks.specs.Owning.{is_known_shared}
use Rattle.project_checks.specs.Checks.{group_names, least}
use Rattle.project_checks.proofs.checks.least_shared.Given as goal

-- what was found is that of the groups behind those that are left
abbrev pub invariant-loop-group : goal.invariant-loop-group
invariant-loop-group l =
    (after : List Group) × (l.fn.groups ≡ l.rest ++ after)
    × (l.least ≡ least (group_names (is_known_shared l.owners) (length l.rest) after))

abbrev pub decreases-loop-group : goal.decreases-loop-group
decreases-loop-group l = length l.rest
