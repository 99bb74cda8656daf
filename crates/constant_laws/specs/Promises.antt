-- What the law says.
use Rattle.std.specs.Prelude.{◌≡◌, ℕ, List, Ok}
use Rattle.sml_trees.specs.declared.full_unit.FullUnit.{FullUnit}
use Rattle.sml_trees.specs.declared.unit.BareUnit.{BareUnit}
use Rattle.lexeme_laws.specs.Limits.{AreBytes}
use Rattle.module_parser.specs.Units.{IsUnit}
use Rattle.derived_forms.specs.Bare.{bare_unit}
use Rattle.code_laws.specs.Constants.{HasFitConstants}

-- the constants of what a unit that is read from bytes becomes fit, where it isn't refused
abbrev pub ConstantsFit : Type 0
ConstantsFit =
    (file source : List ℕ) (unit : FullUnit) (bare : BareUnit) → AreBytes source → IsUnit file source unit
    → bare_unit unit ≡ Ok bare → HasFitConstants bare
