-- What the law says.
use Rattle.std.specs.Prelude.{◌≡◌, ◌<◌, ◌^◌, length, Ok}
use Rattle.sml_trees.specs.declared.full_unit.FullUnit.{FullUnit}
use Rattle.sml_trees.specs.declared.unit.BareUnit.{BareUnit}
use Rattle.sml_syntax.specs.Code.{code_of}
use Rattle.derived_forms.specs.Bare.{bare_unit}
use Rattle.code_laws.specs.Constants.{HasFitConstants}
use Rattle.code_laws.specs.Promises.{HasCode}

-- what a unit becomes that isn't refused has a code, if its constants fit and the length of its bytes is a number of four
-- bytes
abbrev pub BareUnitsHaveCodes : Type 0
BareUnitsHaveCodes =
    (unit : FullUnit) (bare : BareUnit) → bare_unit unit ≡ Ok bare → HasFitConstants bare
    → length (code_of bare) < 2 ^ 32 → HasCode bare
