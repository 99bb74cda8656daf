-- What a plain build shows over files: its units, whatever way they come, have its interfaces.
use Rattle.std.proofs.Common.{◌≡◌, ap₂, refl, ℕ, Bool, true, false, List, [], ◌∷◌, map}
use Rattle.cm_base.specs.Files.{Files}
use Rattle.cm_base.specs.declared.record.BuiltUnit.{BuiltUnit}
use Rattle.build_laws.specs.PlainBuild.{Build, PlainUnit, compiled_unit}
use Rattle.build_laws.specs.Planned.{interfaces_of}
use Rattle.build_laws.specs.Stale.{is_fresh, marked, marked_unit}
use Rattle.command_parts.specs.Meaning.{interfaces_in}

-- the units of a plain build, each with how it comes
abbrev shown : Files → List PlainUnit → List BuiltUnit
shown files units = map (λ (unit : PlainUnit). marked_unit (is_fresh files unit.input) (compiled_unit unit)) units

interface_shown : (fresh : Bool) (unit : PlainUnit) → (marked_unit fresh (compiled_unit unit)).interface ≡ unit.made.interface
interface_shown true unit = refl
interface_shown false unit = refl

all_interfaces : (files : Files) (units : List PlainUnit) → interfaces_in (shown files units) ≡ interfaces_of units
all_interfaces files [] = refl
all_interfaces files (unit ∷ units) =
    ap₂ (λ (i : List ℕ) (is : List (List ℕ)). i ∷ is) (interface_shown (is_fresh files unit.input) unit)
    (all_interfaces files units)

pub interfaces_marked : (files : Files) (build : Build) → interfaces_in (marked files build) ≡ interfaces_of build.units
interfaces_marked files build = all_interfaces files build.units
