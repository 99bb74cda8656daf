-- What the law says.
use Rattle.sml_trees.specs.declared.full_unit.FullUnit.{FullUnit}
use Rattle.bare_forms.specs.Units.{bare_of}
use Rattle.code_laws.specs.Plain.{IsPlain}

-- in the bare unit of a unit, what is to be a sequence is one
abbrev pub BodiesAreSequences : Type 0
BodiesAreSequences = (unit : FullUnit) → IsPlain (bare_of unit)
