-- What is stale in a store: a unit unless a whole binfile of it stands there, made with these options, this whole source
-- and these imports, and the interface that the binfile names stands whole too.
use Rattle.std.specs.Prelude.{ℕ, ◌&&◌, ◌++◌, ◌≡◌, not, Bool, true, false, nat_eq, List, [], ◌∷◌, Option, Some, None, is_some, map, if◌then◌else◌}
use lib.Pointwise.{pointwise}
use Rattle.cm_base.specs.Files.{Files}
use Rattle.cm_base.specs.declared.record.Options.{Options}
use Rattle.cm_base.specs.declared.record.Import.{Import}
use Rattle.cm_base.specs.declared.record.CompileInput.{CompileInput}
use Rattle.cm_base.specs.declared.record.How.TheVariants as how
use Rattle.cm_base.specs.declared.record.BuiltUnit.{BuiltUnit}
use Rattle.cm_bytes.specs.Fields.{space_byte}
use Rattle.bin_formats.specs.declared.bin.Bin.{Bin}
use Rattle.bin_store.specs.Stored.{stored_bin, stored_interface}
use Rattle.build_laws.specs.Inputs.{imports_in}
use Rattle.build_laws.specs.PlainBuild.{Build, compiled_unit}

-- ---- the key of a unit: options, whole source, and imports with providers and hashes, in order

-- a binfile was made with this key
pub record HasKey (bin : Bin) (options : Options) (source : List ℕ) (imports : List Import) : Type 0 where
  pub options_are : bin.options ≡ options
  pub source_is : bin.source ≡ source
  pub imports_are : bin.imports ≡ imports

-- .. by computing
abbrev pub same_flag : Bool → Bool → Bool
same_flag true b = b
same_flag false b = not b

abbrev pub same_options : Options → Options → Bool
same_options a b = same_flag a.nobasis b.nobasis && same_flag a.opaque b.opaque

abbrev pub same_import : Import → Import → Bool
same_import a b =
    nat_eq (space_byte a.name.space) (space_byte b.name.space) && (pointwise nat_eq a.name.name b.name.name
    && (pointwise nat_eq a.provider b.provider && pointwise nat_eq a.hash.bytes b.hash.bytes))

abbrev pub same_imports : List Import → List Import → Bool
same_imports [] [] = true
same_imports [] (b ∷ bs) = false
same_imports (a ∷ rest) [] = false
same_imports (a ∷ rest) (b ∷ bs) = same_import a b && same_imports rest bs

unfoldable pub same_key : Bin → Options → List ℕ → List Import → Bool
same_key bin options source imports =
    same_options bin.options options && (pointwise nat_eq bin.source source && same_imports bin.imports imports)

-- ---- what is loaded

-- the unit of a binfile and of the interface under its hash
abbrev pub loaded_unit : Bin → List ℕ → BuiltUnit
loaded_unit bin interface = record {
  unit = bin.unit;
  how = how.Loaded;
  imports = bin.imports;
  hash = bin.interface;
  interface = interface;
  code = bin.code;
}

abbrev pub with_text : Bin → Option (List ℕ) → Option BuiltUnit
with_text bin None = None
with_text bin (Some interface) = Some (loaded_unit bin interface)

abbrev pub by_key : Files → Bin → Bool → Option BuiltUnit
by_key files bin false = None
by_key files bin true = with_text bin (stored_interface files bin.interface)

abbrev pub of_bin : Files → Options → List ℕ → List Import → Option Bin → Option BuiltUnit
of_bin files options source imports None = None
of_bin files options source imports (Some bin) = by_key files bin (same_key bin options source imports)

-- a unit as the store has it, where it isn't stale
unfoldable pub loaded : Files → List ℕ → Options → List ℕ → List Import → Option BuiltUnit
loaded files unit options source imports = of_bin files options source imports (stored_bin files unit)

abbrev pub is_stale_in : Files → List ℕ → Options → List ℕ → List Import → Bool
is_stale_in files unit options source imports = not (is_some (loaded files unit options source imports))

-- ---- of an input, and of a plain build, in a store

abbrev pub loaded_for : Files → CompileInput → Option BuiltUnit
loaded_for files input = loaded files input.unit input.options input.source (imports_in input.imports)

abbrev pub is_fresh : Files → CompileInput → Bool
is_fresh files input = is_some (loaded_for files input)

-- how a unit comes: loaded where it is fresh, else compiled
abbrev pub marked_unit : Bool → BuiltUnit → BuiltUnit
marked_unit true unit = record unit { how = how.Loaded }
marked_unit false unit = record unit { how = how.Compiled }

-- the units of a plain build, each with how it comes over these files
abbrev pub marked : Files → Build → List BuiltUnit
marked files build = map (λ unit. marked_unit (is_fresh files unit.input) (compiled_unit unit)) build.units

-- the inputs of a plain build: of the units that are done, in order, and then of the one at fault
abbrev pub with_fault : Option CompileInput → List CompileInput
with_fault None = []
with_fault (Some input) = input ∷ []

abbrev pub inputs_of : Build → List CompileInput
inputs_of build = map (λ unit. unit.input) build.units ++ with_fault build.at_fault

-- the names of the stale ones among some inputs
abbrev pub stale_names : Files → List CompileInput → List (List ℕ)
stale_names files [] = []
stale_names files (input ∷ more) = if is_fresh files input then stale_names files more else input.unit ∷ stale_names files more

-- the units for which a build over these files asks the compiler
abbrev pub asked_in : Files → Build → List (List ℕ)
asked_in files build = stale_names files (inputs_of build)
