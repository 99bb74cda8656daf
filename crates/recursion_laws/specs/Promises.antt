-- What the law says.
use Rattle.std.specs.Prelude.{ℕ, List}
use Rattle.sml_trees.specs.declared.full_unit.FullUnit.{FullUnit}
use Rattle.module_parser.specs.Units.{IsUnit}
use Rattle.recursion_laws.specs.Functions.{HasFunctions}

-- a text that is a unit binds functions alone behind `rec`, and by `fun`
abbrev pub RecsAreFunctions : Type 0
RecsAreFunctions = (file source : List ℕ) (unit : FullUnit) → IsUnit file source unit → HasFunctions unit
