-- The format of a linked program: `CML1` and the list of its units; of each its name, its imports (the byte of
-- the name space, the name, and the place of an earlier unit), and its code.
use Rattle.std.specs.Prelude.{ℕ, ◌<◌, ◌^◌, List, ◌∷◌, ◌++◌, length, All}
use Rattle.cm_bytes.specs.Fields.{space_byte, u32_of, text_of, list_of}
use Rattle.linker.specs.declared.program.LinkedImport.{LinkedImport}
use Rattle.linker.specs.declared.program.LinkedUnit.{LinkedUnit}
use Rattle.linker.specs.declared.program.Linked.{Linked}

unfoldable pub linked_import_of : LinkedImport → List ℕ
linked_import_of import = space_byte import.name.space ∷ (text_of import.name.name ++ u32_of import.from)

unfoldable pub linked_unit_of : LinkedUnit → List ℕ
linked_unit_of unit = text_of unit.unit ++ (list_of linked_import_of unit.imports ++ text_of unit.code)

unfoldable pub linked_file : Linked → List ℕ
linked_file linked = 67 ∷ 77 ∷ 76 ∷ 49 ∷ list_of linked_unit_of linked.units

-- a name of fewer than 2^32 bytes
pub record IsShortImport (import : LinkedImport) : Type 0 where
  pub name : length import.name.name < 2 ^ 32

-- a unit whose texts and list of imports are shorter than 2^32
pub record IsShortUnit (unit : LinkedUnit) : Type 0 where
  pub name : length unit.unit < 2 ^ 32
  pub imports : length unit.imports < 2 ^ 32
  pub code : length unit.code < 2 ^ 32
  pub each : All IsShortImport unit.imports

-- a program whose texts and lists are shorter than 2^32
pub record IsShort (linked : Linked) : Type 0 where
  pub units : length linked.units < 2 ^ 32
  pub each : All IsShortUnit linked.units

-- a unit whose imports have places of four bytes
pub record HasSmallPlaces (unit : LinkedUnit) : Type 0 where
  pub each : All (λ import. import.from < 2 ^ 32) unit.imports

-- a program that the format can spell
pub record CanBeSpelled (linked : Linked) : Type 0 where
  pub short : IsShort linked
  pub places : All HasSmallPlaces linked.units
