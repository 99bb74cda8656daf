-- Which bare units have a code, and the law.
use Rattle.std.specs.Prelude.{◌≤◌, ◌<◌, ◌^◌, length}
use Rattle.sml_trees.specs.declared.unit.BareUnit.{BareUnit}
use Rattle.sml_syntax.specs.Code.{code_of}
use Rattle.sml_syntax.specs.PlacesUnit.{unplaced}
use Rattle.sml_syntax.specs.ReadingUnit.{IsRead}
use Rattle.tree_heights.specs.Heights.{unit_height}
use Rattle.code_laws.specs.Constants.{HasFitConstants}
use Rattle.code_laws.specs.Plain.{IsPlain}

-- a bare unit has a code: its bytes are read as the unit again, but for its places
abbrev pub HasCode : BareUnit → Type 0
HasCode unit = IsRead (unplaced unit)

-- a plain unit whose constants fit, of at most 1,024 levels, has a code, if the length of its bytes is a number of four
-- bytes
abbrev pub LowUnitsHaveCodes : Type 0
LowUnitsHaveCodes =
    (unit : BareUnit) → IsPlain unit → HasFitConstants unit → unit_height unit ≤ 1024 → length (code_of unit) < 2 ^ 32
    → HasCode unit
