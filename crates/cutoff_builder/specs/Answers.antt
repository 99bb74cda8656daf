-- What the builder's calls answer, by cases on their results.
use Rattle.std.specs.Prelude.{ℕ, ◌≡◌, ◌<◌, ◌⊎◌, List, ◌++◌, Option, Some, None, Result, Ok, Err, length}
use Rattle.cm_base.specs.Files.{Files, told}
use Rattle.cm_base.specs.Fronts.{GrowsUpTo}
use Rattle.cm_base.specs.Places.{item_at}
use Rattle.cm_base.specs.declared.diag.Diag.{Diag}
use Rattle.cm_base.specs.declared.record.Built.{Built}
use Rattle.cm_base.specs.declared.record.BuiltUnit.{BuiltUnit}
use Rattle.cm_base.specs.declared.record.CompileInput.{CompileInput}
use Rattle.cm_base.specs.declared.record.Compiled.{Compiled}
use Rattle.cm_base.specs.declared.record.How.TheVariants as how
use Rattle.cm_base.specs.declared.record.PlannedUnit.{PlannedUnit}
use Rattle.cutoff_builder.specs.declared.builder.BuildFault.{BuildFault}
use Rattle.cutoff_builder.specs.declared.builder.BuildFault.TheVariants as stop
use Rattle.cutoff_builder.specs.declared.turn.UnitFault.{UnitFault}
use Rattle.cutoff_builder.specs.declared.turn.UnitFault.TheVariants as unit_stop
use Rattle.build_laws.specs.CutBuild.{Turn, Cut}
use Rattle.build_laws.specs.Inputs.{done_unit}
use Rattle.build_laws.specs.Left.{LeftByCut, NextUnit}
use Rattle.build_laws.specs.PlainBuild.{PlainUnit, compiled_unit}
use Rattle.build_laws.specs.Storing.{put_unit, StoresUnit}

-- a table of places finds each unit that is done by its name
pub record IsIndexed (table : List ℕ → Option ℕ) (units : List BuiltUnit) : Type 0 where
  pub finds : (name : List ℕ) → item_at units (table name) ≡ done_unit units name
  pub below : (name : List ℕ) (place : ℕ) → table name ≡ Some place → place < length units

-- a unit that the compiler was asked for is the plain build's as a unit that was compiled
abbrev pub as_compiled : Result PlainUnit Diag → Result BuiltUnit Diag
as_compiled (Err diag) = Err diag
as_compiled (Ok unit) = Ok (compiled_unit unit)

-- one unit's turn that was cut off: the unit is compiled, and was stored as far as it came
pub record Begun (t : Turn) (files : Files) (new : Option Files) (planned : PlannedUnit) : Type 0 where
  pub unit : BuiltUnit
  pub gives : t.gives ≡ Ok unit
  pub came : unit.how ≡ how.Compiled
  pub stores : StoresUnit (Some files) new planned unit

-- what a turn leaves: the unit is done, or its diagnostic comes; or the turn was cut off
abbrev pub TurnLeaves : Result BuiltUnit UnitFault → Turn → Files → Option Files → PlannedUnit → Type 0
TurnLeaves (Ok unit) t files new planned = (t.gives ≡ Ok unit) × (new ≡ Some t.files)
TurnLeaves (Err (unit_stop.Diag diag)) t files new planned = (t.gives ≡ Err diag) × (new ≡ Some t.files)
TurnLeaves (Err unit_stop.Folder) t files new planned = (new ≡ Some files) ⊎ Begun t files new planned
TurnLeaves (Err unit_stop.NoMemory) t files new planned = (new ≡ Some files) ⊎ Begun t files new planned

-- a unit that is compiled and stored: it is done, or its diagnostic comes and nothing is stored, or it was cut off
pub record BegunUnit (defined : Result BuiltUnit Diag) (old new : Option Files) (planned : PlannedUnit) : Type 0 where
  pub unit : BuiltUnit
  pub gives : defined ≡ Ok unit
  pub stores : StoresUnit old new planned unit

abbrev pub CompilesUnit : Result BuiltUnit UnitFault → Result BuiltUnit Diag → Option Files → Option Files → PlannedUnit → Type 0
CompilesUnit (Ok unit) defined old new planned =
    (defined ≡ Ok unit) × (new ≡ told (λ files. put_unit files planned unit) old)
CompilesUnit (Err (unit_stop.Diag diag)) defined old new planned = (defined ≡ Err diag) × (new ≡ old)
CompilesUnit (Err unit_stop.Folder) defined old new planned = (new ≡ old) ⊎ BegunUnit defined old new planned
CompilesUnit (Err unit_stop.NoMemory) defined old new planned = (new ≡ old) ⊎ BegunUnit defined old new planned

-- .. and what a turn asks the compiler for
abbrev pub UnitAsked : {A : Type 0} → Result A UnitFault → List (List ℕ) → List (List ℕ) → List (List ℕ) → Type 0
UnitAsked (Ok done) old new asked = new ≡ old ++ asked
UnitAsked (Err (unit_stop.Diag diag)) old new asked = new ≡ old ++ asked
UnitAsked (Err unit_stop.Folder) old new asked = GrowsUpTo old new asked
UnitAsked (Err unit_stop.NoMemory) old new asked = GrowsUpTo old new asked

pub record Turns (result : Result BuiltUnit UnitFault) (t : Turn) (files : Files) (new : Option Files) (planned : PlannedUnit)
    (asked now : List (List ℕ)) : Type 0 where
  pub leaves : TurnLeaves result t files new planned
  pub asks : UnitAsked result asked now t.asked

-- the turns of the units of a number: of one, or of none. After Ok they are done; after a diagnostic nothing is added;
-- and a turn that was cut off left the files as they were, or was begun, or its unit is stored and couldn't be added
abbrev pub StepLeaves : Result (Unit {0}) UnitFault → (CompileInput → Result Compiled Diag) → Files → List PlannedUnit
    → List BuiltUnit → List BuiltUnit → Cut → Option Files → Type 0
StepLeaves (Ok done) compiled files next before after cut new =
    (cut.ended ≡ None) × (after ≡ before ++ cut.units) × (new ≡ Some cut.files)
StepLeaves (Err (unit_stop.Diag diag)) compiled files next before after cut new =
    (cut.ended ≡ Some diag) × (after ≡ before ++ cut.units) × (new ≡ Some cut.files)
StepLeaves (Err unit_stop.Folder) compiled files next before after cut new =
    (new ≡ Some files) ⊎ NextUnit compiled before files next new
StepLeaves (Err unit_stop.NoMemory) compiled files next before after cut new =
    ((new ≡ Some files) ⊎ NextUnit compiled before files next new) ⊎ ((cut.ended ≡ None) × (new ≡ Some cut.files))

pub record Steps (result : Result (Unit {0}) UnitFault) (compiled : CompileInput → Result Compiled Diag) (files : Files)
    (next : List PlannedUnit) (before after : List BuiltUnit) (cut : Cut) (new : Option Files) (asked now : List (List ℕ))
    : Type 0 where
  pub leaves : StepLeaves result compiled files next before after cut new
  pub asks : UnitAsked result asked now cut.asked

-- a whole build over these files: it ended without a diagnostic, or with the first one, or it was cut off
abbrev pub BuildLeaves : Result Built BuildFault → (CompileInput → Result Compiled Diag) → Files → List PlannedUnit → Cut
    → Option Files → Type 0
BuildLeaves (Ok built) compiled files planned cut new =
    (cut.units ≡ built.units) × (cut.ended ≡ None) × (new ≡ Some cut.files)
BuildLeaves (Err (stop.Stop diag done)) compiled files planned cut new =
    (cut.units ≡ done.units) × (cut.ended ≡ Some diag) × (new ≡ Some cut.files)
BuildLeaves (Err stop.Folder) compiled files planned cut new = LeftByCut compiled files planned new
BuildLeaves (Err stop.NoMemory) compiled files planned cut new = LeftByCut compiled files planned new

abbrev pub BuildAsked : Result Built BuildFault → List (List ℕ) → List (List ℕ) → List (List ℕ) → Type 0
BuildAsked (Ok built) old new asked = new ≡ old ++ asked
BuildAsked (Err (stop.Stop diag done)) old new asked = new ≡ old ++ asked
BuildAsked (Err stop.Folder) old new asked = GrowsUpTo old new asked
BuildAsked (Err stop.NoMemory) old new asked = GrowsUpTo old new asked

pub record Cuts (result : Result Built BuildFault) (compiled : CompileInput → Result Compiled Diag) (files : Files)
    (planned : List PlannedUnit) (cut : Cut) (new : Option Files) (asked now : List (List ℕ)) : Type 0 where
  pub leaves : BuildLeaves result compiled files planned cut new
  pub asks : BuildAsked result asked now cut.asked
