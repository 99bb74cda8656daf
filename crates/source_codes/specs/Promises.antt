-- Bare units as their format wants them, and what the laws say.
use Rattle.std.specs.Prelude.{◌≡◌, ◌≤◌, ◌<◌, ◌^◌, ℕ, List, length, Result, Ok}
use Rattle.cm_base.specs.Diags.{◌>>=◌}
use Rattle.cm_base.specs.declared.diag.Diag.{Diag}
use Rattle.sml_trees.specs.declared.unit.BareUnit.{BareUnit}
use Rattle.sml_syntax.specs.Code.{code_of}
use Rattle.tree_heights.specs.Heights.{unit_height}
use Rattle.lexeme_laws.specs.Limits.{AreBytes}
use Rattle.module_parser.specs.Parsing.{parsed_unit}
use Rattle.derived_forms.specs.Bare.{bare_unit}
use Rattle.code_laws.specs.Constants.{HasFitConstants}
use Rattle.code_laws.specs.Plain.{IsPlain}
use Rattle.code_laws.specs.Promises.{HasCode}
use Rattle.fitting_names.specs.Names.{HasFitNames}

-- the bare unit of a source, or its first diagnostic: what the compiler compiles
abbrev pub bare_source : List ℕ → List ℕ → Result BareUnit Diag
bare_source file source = parsed_unit file source >>= bare_unit

-- a bare unit that fits its format: what is to be a sequence is one, an integer has eight bytes and a character one, and
-- at most 1,024 tags stand in one another; and of a name more than the format asks, it has 1 to 255 bytes from 33 to 126
pub record FitsFormat (unit : BareUnit) : Type 0 where
  pub sequences : IsPlain unit
  pub constants : HasFitConstants unit
  pub names : HasFitNames unit
  pub levels : unit_height unit ≤ 1024

-- the bare unit of a source of bytes is such a one
abbrev pub SourcesFitFormat : Type 0
SourcesFitFormat =
    (file source : List ℕ) (bare : BareUnit) → AreBytes source → bare_source file source ≡ Ok bare → FitsFormat bare

-- such a unit has a code, if the length of its bytes is a number of four bytes
abbrev pub FitUnitsHaveCodes : Type 0
FitUnitsHaveCodes = (bare : BareUnit) → FitsFormat bare → length (code_of bare) < 2 ^ 32 → HasCode bare

-- so the bare unit of a source of bytes has one, if the length of its bytes is such a number
abbrev pub SourcesHaveCodes : Type 0
SourcesHaveCodes =
    (file source : List ℕ) (bare : BareUnit) → AreBytes source → bare_source file source ≡ Ok bare
    → length (code_of bare) < 2 ^ 32 → HasCode bare
