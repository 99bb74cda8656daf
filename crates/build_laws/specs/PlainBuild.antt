-- The plain build: every unit is compiled in order, with the interfaces that this build gave to its providers. It knows
-- no store. It ends at the first diagnostic.
use Rattle.std.specs.Prelude.{ℕ, List, [], ◌∷◌, ◌++◌, Option, Some, None, Result, Ok, Err, map, if◌then◌else◌}
use Rattle.cm_base.specs.Diags.{whole_file}
use Rattle.cm_base.specs.declared.diag.Diag.{Diag}
use Rattle.cm_base.specs.declared.record.CompileInput.{CompileInput}
use Rattle.cm_base.specs.declared.record.Compiled.{Compiled}
use Rattle.cm_base.specs.declared.record.BuiltUnit.{BuiltUnit}
use Rattle.cm_base.specs.declared.record.PlannedUnit.{PlannedUnit}
use Rattle.build_laws.specs.Inputs.{input_after, interface_bytes, is_too_large, built_unit}

-- a unit that is done: what the compiler saw of it, and the interface and the code that it made
pub record PlainUnit : Type 0 where
  pub input : CompileInput
  pub made : Compiled

-- .. as a unit of a build that compiled it
abbrev pub compiled_unit : PlainUnit → BuiltUnit
compiled_unit unit = built_unit unit.input unit.made

abbrev pub compiled_units : List PlainUnit → List BuiltUnit
compiled_units units = map compiled_unit units

-- what the compiler answers to an input, after interfaces of so many bytes: a diagnostic; or 12 at the unit, where the
-- interface, the code or the sum of the interfaces passes its limit; or the unit is done
abbrev pub plain_unit : ℕ → CompileInput → Result Compiled Diag → Result PlainUnit Diag
plain_unit before input (Err diag) = Err diag
plain_unit before input (Ok made) =
    if is_too_large before made then Err (whole_file 12 input.unit) else Ok (record { input = input; made = made })

-- a unit after those that are done
abbrev pub unit_after : (CompileInput → Result Compiled Diag) → List BuiltUnit → PlannedUnit → Result PlainUnit Diag
unit_after compiled before planned =
    plain_unit (interface_bytes before) (input_after before planned) (compiled (input_after before planned))

-- a build: the units that are done, in order; the diagnostic that ended it; and then the input of the unit at fault,
-- which the compiler refuses or of which it makes too much
pub record Build : Type 0 where
  pub units : List PlainUnit
  pub ended : Option Diag
  pub at_fault : Option CompileInput

-- a unit and then the others, where it is done
abbrev pub then_build : CompileInput → Result PlainUnit Diag → (PlainUnit → Build) → Build
then_build input (Err diag) rest = record { units = []; ended = Some diag; at_fault = Some input }
then_build input (Ok unit) rest =
    record { units = unit ∷ (rest unit).units; ended = (rest unit).ended; at_fault = (rest unit).at_fault }

-- the plain build of the units that are left, after those that are done
abbrev pub build_after : (CompileInput → Result Compiled Diag) → List PlainUnit → List PlannedUnit → Build
build_after compiled before [] = record { units = []; ended = None; at_fault = None }
build_after compiled before (planned ∷ more) =
    then_build (input_after (compiled_units before) planned) (unit_after compiled (compiled_units before) planned)
    (λ unit. build_after compiled (before ++ unit ∷ []) more)

-- the plain build of a project's units in their order
abbrev pub plain_build : (CompileInput → Result Compiled Diag) → List PlannedUnit → Build
plain_build compiled units = build_after compiled [] units
