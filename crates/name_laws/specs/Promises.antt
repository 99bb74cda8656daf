-- What the law says.
use Rattle.std.specs.Prelude.{◌≡◌, ℕ, List, Ok}
use Rattle.sml_trees.specs.declared.full_unit.FullUnit.{FullUnit}
use Rattle.sml_trees.specs.declared.unit.BareUnit.{BareUnit}
use Rattle.lexeme_laws.specs.Limits.{AreBytes}
use Rattle.module_parser.specs.Units.{IsUnit}
use Rattle.derived_forms.specs.Bare.{bare_unit}
use Rattle.fitting_names.specs.Names.{HasFitNames}

-- each name of what a unit that is read from bytes becomes has 1 to 255 bytes from 33 to 126, where it isn't refused
abbrev pub NamesFit : Type 0
NamesFit =
    (file source : List ℕ) (unit : FullUnit) (bare : BareUnit) → AreBytes source → IsUnit file source unit
    → bare_unit unit ≡ Ok bare → HasFitNames bare
