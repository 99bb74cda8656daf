-- What a unit that is done has in the store: its interface file and its binfile.
use Rattle.std.specs.Prelude.{ℕ, ◌≡◌, ◌⊎◌, ◌<◌, ◌^◌, length, All, List, [], ◌∷◌, Option}
use Rattle.std.specs.FinMap.{insert}
use Rattle.std.specs.List.{AllByRecursion}
use Rattle.cm_base.specs.Files.{Files, told}
use Rattle.cm_base.specs.declared.record.BuiltUnit.{BuiltUnit}
use Rattle.cm_base.specs.declared.record.PlannedUnit.{PlannedUnit}
use Rattle.cm_base.specs.declared.record.WantedName.{WantedName}
use Rattle.cm_bytes.specs.Hashes.{hash_of}
use Rattle.bin_formats.specs.declared.bin.Bin.{Bin}
use Rattle.bin_formats.specs.Format.{binfile, interface_file, IsSpot, IsShortBin}
use Rattle.bin_store.specs.Paths.{bin_path, interface_path}
use Rattle.bin_store.specs.Stored.{with_interface, PutsInterface, PutsBin}

-- the binfile's value of a unit that is done
abbrev pub bin_of_unit : PlannedUnit → BuiltUnit → Bin
bin_of_unit planned unit = record {
  unit = planned.unit;
  options = planned.options;
  source = planned.source;
  skeleton = planned.skeleton;
  imports = unit.imports;
  interface = unit.hash;
  code = unit.code;
}

-- the files with a unit's interface and binfile
unfoldable pub with_unit : Files → PlannedUnit → BuiltUnit → Files
with_unit files planned unit =
    insert (insert files (interface_path unit.hash) (interface_file unit.interface))
    (bin_path planned.unit) (binfile (bin_of_unit planned unit))

-- .. of each unit that is done, in order
abbrev pub with_units : Files → List PlannedUnit → List BuiltUnit → Files
with_units files [] units = files
with_units files (planned ∷ more) [] = files
with_units files (planned ∷ more) (unit ∷ units) = with_units (with_unit files planned unit) more units

-- the same of one unit where an interface is written only if none stands whole under its hash
unfoldable pub put_unit : Files → PlannedUnit → BuiltUnit → Files
put_unit files planned unit =
    insert (with_interface files unit.interface) (bin_path planned.unit) (binfile (bin_of_unit planned unit))

-- the paths that are written for a unit
abbrev pub unit_paths : BuiltUnit → List (List ℕ)
unit_paths unit = interface_path unit.hash ∷ bin_path unit.unit ∷ []

-- what storing a unit leaves, whatever it answers: what a put of its interface leaves, and then, where that was
-- put, what a put of its binfile leaves
pub record StoresUnit (old new : Option Files) (planned : PlannedUnit) (unit : BuiltUnit) : Type 0 where
  pub between : Option Files
  pub interface : PutsInterface old between unit.interface
  pub bin : (new ≡ between) ⊎ ((between ≡ told (λ files. with_interface files unit.interface) old)
      × PutsBin between new (bin_of_unit planned unit))

pub record IsShortWanted (wanted : WantedName) : Type 0 where
  pub name : length wanted.name.name < 2 ^ 32
  pub provider : length wanted.provider < 2 ^ 32

-- texts and lists of fewer than 2^32 bytes and items, and places whose numbers have four bytes
pub record IsSmallPlanned (planned : PlannedUnit) : Type 0 where
  pub unit : length planned.unit < 2 ^ 32
  pub source : length planned.source < 2 ^ 32
  pub defined : length planned.skeleton.defined < 2 ^ 32
  pub each_defined : All IsSpot planned.skeleton.defined
  pub free : length planned.skeleton.free < 2 ^ 32
  pub each_free : All (λ need. IsSpot need.spot) planned.skeleton.free
  pub wanted : length planned.wanted < 2 ^ 32
  pub each_wanted : AllByRecursion IsShortWanted planned.wanted

-- a unit that can be stored: it has its interface's hash, and the texts and lists of its binfile are short
pub record IsStorable (planned : PlannedUnit) (unit : BuiltUnit) : Type 0 where
  pub hash : unit.hash ≡ hash_of unit.interface
  pub short : IsShortBin (bin_of_unit planned unit)
  pub interface : length unit.interface < 2 ^ 32
