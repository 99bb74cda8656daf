-- The linked program of the units that a build has done: each unit with the places of the units that it imports
-- from, and its code.
use Rattle.std.specs.Prelude.{ℕ, ◌≡◌, ◌+◌, ◌<◌, ◌^◌, List, [], ◌∷◌, Option, Some, None, map, length, nat_eq, if◌then◌else◌, All}
use Rattle.std.specs.Option.{option_or, unwrap_or}
use lib.Pointwise.{pointwise}
use Rattle.cm_base.specs.declared.record.Import.{Import}
use Rattle.cm_base.specs.declared.record.BuiltUnit.{BuiltUnit}
use Rattle.linker.specs.declared.program.LinkedImport.{LinkedImport}
use Rattle.linker.specs.declared.program.LinkedUnit.{LinkedUnit}
use Rattle.linker.specs.declared.program.Linked.{Linked}
use Rattle.linker.specs.Spelling.{linked_file}

-- the place of the last unit of this name, counted from a first place
abbrev pub place_from : ℕ → List BuiltUnit → List ℕ → Option ℕ
place_from first [] name = None
place_from first (unit ∷ units) name =
    option_or (place_from (first + 1) units name) (if pointwise nat_eq unit.unit name then Some first else None)

-- an import by the place of its provider; a provider that has none gets 0, which an order never needs
abbrev pub import_at : (List ℕ → Option ℕ) → Import → LinkedImport
import_at place import = record { name = import.name; from = unwrap_or (place import.provider) 0 }

-- a unit with the places of the units that it imports from
abbrev pub with_places : (List ℕ → Option ℕ) → BuiltUnit → LinkedUnit
with_places place unit = record { unit = unit.unit; imports = map (import_at place) unit.imports; code = unit.code }

-- the units, linked
unfoldable pub link_of : List BuiltUnit → Linked
link_of units = record { units = map (with_places (place_from 0 units)) units }

-- the bytes of the linked program
abbrev pub linked_program : List BuiltUnit → List ℕ
linked_program units = linked_file (link_of units)

-- a table of places has for each name that of its unit
abbrev pub IsPlaces : (List ℕ → Option ℕ) → List BuiltUnit → Type 0
IsPlaces table units = table ≡ place_from 0 units

-- a unit of a build whose texts and list of imports are shorter than 2^32
pub record IsShortBuilt (unit : BuiltUnit) : Type 0 where
  pub name : length unit.unit < 2 ^ 32
  pub imports : length unit.imports < 2 ^ 32
  pub code : length unit.code < 2 ^ 32
  pub each : All (λ import. length import.name.name < 2 ^ 32) unit.imports
