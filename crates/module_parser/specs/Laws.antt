-- What a text is, and what is said of one that is no unit, is determined; and a function gives it.
use Rattle.std.specs.Prelude.{◌≡◌, ◌↔◌, ℕ, List, Ok, Err}
use Rattle.cm_base.specs.declared.diag.Diag.{Diag}
use Rattle.sml_trees.specs.declared.full_unit.FullUnit.{FullUnit}
use Rattle.module_parser.specs.Parsing.{parsed_unit}
use Rattle.module_parser.specs.Units.{IsUnit, IsFirstDiagnostic}

-- a text is at most one unit
abbrev pub OneUnit : Type 0
OneUnit = (file source : List ℕ) (one other : FullUnit) → IsUnit file source one → IsUnit file source other → one ≡ other

-- a text that is a unit has no diagnostic
abbrev pub UnitHasNoDiagnostic : Type 0
UnitHasNoDiagnostic =
    (file source : List ℕ) (unit : FullUnit) (diag : Diag) → IsUnit file source unit → IsFirstDiagnostic file source diag
    → ⊥

-- a text has at most one first diagnostic
abbrev pub OneDiagnostic : Type 0
OneDiagnostic =
    (file source : List ℕ) (one other : Diag) → IsFirstDiagnostic file source one → IsFirstDiagnostic file source other
    → one ≡ other

-- a text is a unit exactly where it is parsed as that unit
abbrev pub UnitsAreParsed : Type 0
UnitsAreParsed =
    (file source : List ℕ) (unit : FullUnit) → IsUnit file source unit ↔ (parsed_unit file source ≡ Ok unit)

-- a diagnostic is a text's first one exactly where the text is refused with it
abbrev pub DiagnosticsAreParsed : Type 0
DiagnosticsAreParsed =
    (file source : List ℕ) (diag : Diag) → IsFirstDiagnostic file source diag ↔ (parsed_unit file source ≡ Err diag)
