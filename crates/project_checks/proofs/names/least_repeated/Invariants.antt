use Rattle.std.proofs.Common.{◌≡◌, ◌++◌, ℕ, List, length, map, nat_eq}
use Rattle.std.specs.List.{list_any}
use lib.Pointwise.{pointwise}
use Rattle.cm_description.specs.declared.loaded.Unit.{Unit as LoadedUnit}
use Rattle.project_checks.specs.Checks.{least, repeated}
use Rattle.project_checks.proofs.names.least_repeated.Given as goal

-- what was found is that of the units behind those that are left, whose names the table has
abbrev pub invariant-loop-unit : goal.invariant-loop-unit
invariant-loop-unit l =
    (after : List LoadedUnit) × (l.fn.units ≡ l.rest ++ after)
    × (l.least ≡ least (repeated (map (λ (unit : LoadedUnit). unit.name) after)))
    × ((name : List ℕ) → list_any (pointwise nat_eq name) l.behind.keys
    ≡ list_any (pointwise nat_eq name) (map (λ (unit : LoadedUnit). unit.name) after))

abbrev pub decreases-loop-unit : goal.decreases-loop-unit
decreases-loop-unit l = length l.rest
