-- Where no store was begun nothing is fresh: every unit is compiled, and asked for.
use Rattle.std.proofs.Common.{◌≡◌, ap, ap₂, refl, ℕ, true, false, cond, List, [], ◌∷◌, Option, Some, None, map}
use Rattle.std.specs.Prelude.{is_some}
use Rattle.std.specs.FinMap.{get}
use Rattle.cm_base.specs.Files.{Files, HasNoStore, is_stored}
use Rattle.cm_base.specs.declared.record.BuiltUnit.{BuiltUnit}
use Rattle.cm_base.specs.declared.record.CompileInput.{CompileInput}
use Rattle.bin_store.specs.Paths.{bin_path}
use Rattle.bin_store.specs.Stored.{bin_found, stored_bin}
use Rattle.bin_store.proofs.Elsewhere.{bin_stored}
use Rattle.build_laws.specs.Inputs.{imports_in}
use Rattle.build_laws.specs.PlainBuild.{Build, PlainUnit, compiled_unit, compiled_units}
use Rattle.build_laws.specs.Stale.{asked_in, inputs_of, is_fresh, loaded, marked, marked_unit, of_bin, stale_names}

absent : (files : Files) (path : List ℕ) → HasNoStore files → is_stored path ≡ true → get files path ≡ None
absent files path none stored = by_file (get files path) refl
  where
    by_file : (file : Option (List ℕ)) → get files path ≡ file → file ≡ None
    by_file None is = refl
    by_file (Some bytes) is = let outside = none.none path bytes is in absurd (cc (outside, stored))

no_bin : (files : Files) (unit : List ℕ) → HasNoStore files → stored_bin files unit ≡ None
unfolding stored_bin
no_bin files unit none = ap (bin_found unit) (absent files (bin_path unit) none (bin_stored unit))

pub never_fresh : (files : Files) (input : CompileInput) → HasNoStore files → is_fresh files input ≡ false
unfolding loaded
never_fresh files input none =
    ap (λ o. is_some (of_bin files input.options input.source (imports_in input.imports) o))
    (no_bin files input.unit none)

all_compiled : (files : Files) (us : List PlainUnit) → HasNoStore files
    → map (λ (u : PlainUnit). marked_unit (is_fresh files u.input) (compiled_unit u)) us ≡ compiled_units us
all_compiled files [] none = refl
all_compiled files (u ∷ us) none =
    ap₂ (λ fresh (rest : List BuiltUnit). marked_unit fresh (compiled_unit u) ∷ rest) (never_fresh files u.input none)
    (all_compiled files us none)

pub alone_compiled : (files : Files) (b : Build) → HasNoStore files → marked files b ≡ compiled_units b.units
alone_compiled files b none = all_compiled files b.units none

all_asked : (files : Files) (inputs : List CompileInput) → HasNoStore files
    → stale_names files inputs ≡ map (λ (input : CompileInput). input.unit) inputs
all_asked files [] none = refl
all_asked files (input ∷ more) none =
    ap₂ (λ fresh rest. cond fresh rest (input.unit ∷ rest)) (never_fresh files input none) (all_asked files more none)

pub alone_asked : (files : Files) (b : Build) → HasNoStore files
    → asked_in files b ≡ map (λ (input : CompileInput). input.unit) (inputs_of b)
alone_asked files b none = all_asked files (inputs_of b) none
