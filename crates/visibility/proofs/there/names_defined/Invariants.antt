use Rattle.std.proofs.Common.{◌≡◌, ◌++◌, drop}
use Rattle.std.specs.List.{flat_map}
use Rattle.visibility.specs.Projects.{defined_by}
use Rattle.visibility.proofs.there.names_defined.Given as goal

-- the names so far and those of the units that are left
abbrev pub invariant-loop-unit : goal.invariant-loop-unit
invariant-loop-unit l =
    l.names ++ flat_map (defined_by l.skeletons) (drop l.unit-index l.units) ≡ flat_map (defined_by l.skeletons) l.units
