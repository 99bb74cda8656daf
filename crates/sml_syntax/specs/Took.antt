-- What a call that reads a code, or a part of one, answers.
use Rattle.std.specs.Prelude.{◌≡◌, ℕ, List, Option, Some, None, Result, Ok, Err}
use Rattle.sml_syntax.specs.Code.{code_of}
use Rattle.sml_syntax.specs.ReadingUnit.{unit_of, IsRead}
use Rattle.sml_syntax.specs.declared.fault.CodeFault.{CodeFault}
use Rattle.sml_syntax.specs.declared.fault.CodeFault.TheVariants as fault
use Rattle.sml_trees.specs.declared.unit.BareUnit.{BareUnit}

-- what a step makes of the bytes, with those that it leaves; a refusal where it reads nothing; want of memory is free
abbrev pub Took : {A : Type 0} → Option (A × List ℕ) → Result A CodeFault → List ℕ → Type 0
Took answer (Ok x) rest = answer ≡ Some (x, rest)
Took answer (Err fault.BadCode) rest = answer ≡ None
Took answer (Err fault.NoMemory) rest = Unit {0}

-- the unit that is read from the bytes; a refusal where none is
abbrev pub IsUnitOf : List ℕ → Result BareUnit CodeFault → Type 0
IsUnitOf bytes (Ok unit) = unit_of bytes ≡ Some unit
IsUnitOf bytes (Err fault.BadCode) = unit_of bytes ≡ None
IsUnitOf bytes (Err fault.NoMemory) = Unit {0}

-- the unit whose code the bytes are, with no places; a refusal where they are no such unit's
abbrev pub ReadsCode : List ℕ → Result BareUnit CodeFault → Type 0
ReadsCode bytes (Ok unit) = (code_of unit ≡ bytes) × IsRead unit
ReadsCode bytes (Err fault.BadCode) = (unit : BareUnit) → IsRead unit → code_of unit ≡ bytes → ⊥
ReadsCode bytes (Err fault.NoMemory) = Unit {0}
