-- The build over a store, by computing: a unit that isn't stale is loaded, each other one is compiled and stored. Nothing
-- is asked of the store here.
use Rattle.std.specs.Prelude.{ℕ, List, [], ◌∷◌, ◌++◌, Option, Some, None, Result, Ok, Err, if◌then◌else◌}
use Rattle.cm_base.specs.Diags.{whole_file}
use Rattle.cm_base.specs.Files.{Files}
use Rattle.cm_base.specs.declared.diag.Diag.{Diag}
use Rattle.cm_base.specs.declared.record.CompileInput.{CompileInput}
use Rattle.cm_base.specs.declared.record.Compiled.{Compiled}
use Rattle.cm_base.specs.declared.record.BuiltUnit.{BuiltUnit}
use Rattle.cm_base.specs.declared.record.PlannedUnit.{PlannedUnit}
use Rattle.build_laws.specs.Inputs.{input_after, interface_bytes, is_too_large}
use Rattle.build_laws.specs.PlainBuild.{PlainUnit, compiled_unit, plain_unit}
use Rattle.build_laws.specs.Stale.{loaded_for}
use Rattle.build_laws.specs.Storing.{put_unit}

-- ---- one unit's turn

-- what a turn gives, what the compiler is asked for, and the files after it
pub record Turn : Type 0 where
  pub gives : Result BuiltUnit Diag
  pub asked : List (List ℕ)
  pub files : Files

-- a loaded unit meets the limits as one that is compiled does: a binfile may hold a longer code
abbrev pub limited : ℕ → BuiltUnit → Result BuiltUnit Diag
limited before unit =
    if is_too_large before (record { interface = unit.interface; code = unit.code }) then Err (whole_file 12 unit.unit)
    else Ok unit

abbrev pub loaded_turn : Files → Result BuiltUnit Diag → Turn
loaded_turn files gives = record { gives = gives; asked = []; files = files }

-- a unit that is compiled is stored where it is done
abbrev pub compiled_turn : Files → PlannedUnit → Result PlainUnit Diag → Turn
compiled_turn files planned (Err diag) = record { gives = Err diag; asked = planned.unit ∷ []; files = files }
compiled_turn files planned (Ok unit) = record {
  gives = Ok (compiled_unit unit);
  asked = planned.unit ∷ [];
  files = put_unit files planned (compiled_unit unit);
}

abbrev pub turn_by : (CompileInput → Result Compiled Diag) → Files → ℕ → PlannedUnit → CompileInput → Option BuiltUnit → Turn
turn_by compiled files before planned input (Some unit) = loaded_turn files (limited before unit)
turn_by compiled files before planned input None = compiled_turn files planned (plain_unit before input (compiled input))

-- a unit's turn after those that are done
abbrev pub turn : (CompileInput → Result Compiled Diag) → Files → List BuiltUnit → PlannedUnit → Turn
turn compiled files before planned =
    turn_by compiled files (interface_bytes before) planned (input_after before planned) (loaded_for files (input_after before planned))

-- ---- a build

-- the units that are done, the diagnostic that ended it, the units that were asked for, and the files that it leaves
pub record Cut : Type 0 where
  pub units : List BuiltUnit
  pub ended : Option Diag
  pub asked : List (List ℕ)
  pub files : Files

abbrev pub then_cut : Result BuiltUnit Diag → List (List ℕ) → Files → (BuiltUnit → Cut) → Cut
then_cut (Err diag) asked files rest = record { units = []; ended = Some diag; asked = asked; files = files }
then_cut (Ok unit) asked files rest = record {
  units = unit ∷ (rest unit).units;
  ended = (rest unit).ended;
  asked = asked ++ (rest unit).asked;
  files = (rest unit).files;
}

abbrev pub cut_turn : Turn → (Files → BuiltUnit → Cut) → Cut
cut_turn one rest = then_cut one.gives one.asked one.files (rest one.files)

-- the build over a store of the units that are left, after those that are done
abbrev pub cut_after : (CompileInput → Result Compiled Diag) → Files → List BuiltUnit → List PlannedUnit → Cut
cut_after compiled files before [] = record { units = []; ended = None; asked = []; files = files }
cut_after compiled files before (planned ∷ more) =
    cut_turn (turn compiled files before planned)
    (λ after unit. cut_after compiled after (before ++ unit ∷ []) more)

abbrev pub cut_build : (CompileInput → Result Compiled Diag) → Files → List PlannedUnit → Cut
cut_build compiled files planned = cut_after compiled files [] planned
