-- The theorem of a build. From a store that is good for some known interfaces, where no two of these and of the plain
-- build's share a hash, it is the plain build, and the compiler is asked for what is stale in the store at entry, and for
-- nothing else.
use Rattle.std.specs.Prelude.{ℕ, ◌≡◌, List, ◌++◌, Option, Some, None, Result, Ok, Err}
use Rattle.cm_base.specs.Definitions.{Definitions}
use Rattle.cm_base.specs.Files.{Files}
use Rattle.cm_base.specs.Keeping.{Keeps}
use Rattle.cm_base.specs.declared.record.Built.{Built}
use Rattle.cm_base.specs.declared.record.PlannedUnit.{PlannedUnit}
use Rattle.cm_bytes.specs.Hashes.{HashesApart}
use Rattle.bin_store.specs.GoodStore.{IsGoodStore, StoreIsGood}
use Rattle.build_laws.specs.PlainBuild.{Build, compiled_units, plain_build}
use Rattle.build_laws.specs.Planned.{interfaces_of, paths_of, HaveSkeletons, NamesDiffer}
use Rattle.build_laws.specs.Stale.{marked, asked_in}
use Rattle.build_laws.specs.Storing.{with_units}
use Rattle.cutoff_builder.specs.Answers.{BuildAsked}
use Rattle.cutoff_builder.specs.declared.builder.BuildFault.{BuildFault}
use Rattle.cutoff_builder.specs.declared.builder.BuildFault.TheVariants as stop

-- the answer is the plain build's units, each with how it came, and its diagnostic
abbrev pub GivesPlain : Result Built BuildFault → Files → Build → Type 0
GivesPlain (Ok built) files plain = (built.units ≡ marked files plain) × (plain.ended ≡ None)
GivesPlain (Err (stop.Stop diag done)) files plain = (done.units ≡ marked files plain) × (plain.ended ≡ Some diag)
GivesPlain (Err stop.Folder) files plain = Unit {0}
GivesPlain (Err stop.NoMemory) files plain = Unit {0}

-- the files are those at entry with each unit's interface file and binfile, as the plain build gives them
abbrev pub LeavesPlain : Result Built BuildFault → Files → List PlannedUnit → Build → Option Files → Type 0
LeavesPlain (Ok built) files planned plain new = new ≡ Some (with_units files planned (compiled_units plain.units))
LeavesPlain (Err (stop.Stop diag done)) files planned plain new =
    new ≡ Some (with_units files planned (compiled_units plain.units))
LeavesPlain (Err stop.Folder) files planned plain new = Unit {0}
LeavesPlain (Err stop.NoMemory) files planned plain new = Unit {0}

pub record CutsOff (by : Definitions) (known : List (List ℕ)) (files : Files) (planned : List PlannedUnit) (plain : Build)
    (result : Result Built BuildFault) (new : Option Files) (asked now : List (List ℕ)) : Type 0 where
  pub gives : GivesPlain result files plain
  pub leaves : LeavesPlain result files planned plain new
  -- after a fault what was asked is a front of that
  pub asks : BuildAsked result asked now (asked_in files plain)
  -- whatever the answer, other paths are as they were, and the store is good
  pub frame : Keeps (Some files) new (paths_of plain.units)
  pub good : StoreIsGood by (known ++ interfaces_of plain.units) new

-- .. for every list of known interfaces for which the store is good, where the planned units have names that differ and the
-- compiler's skeletons
abbrev pub Builds : Definitions → Files → List PlannedUnit → Result Built BuildFault → Option Files → List (List ℕ)
    → List (List ℕ) → Type 0
Builds by files planned result new asked now = (known : List (List ℕ)) → NamesDiffer planned → HaveSkeletons by.skel planned
    → HashesApart (known ++ interfaces_of (plain_build by.compiled planned).units) → IsGoodStore by known files
    → CutsOff by known files planned (plain_build by.compiled planned) result new asked now
