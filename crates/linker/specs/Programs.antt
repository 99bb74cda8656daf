-- Which bytes are a linked program, and of which units: those whose codes are codes of trees, and in which each unit
-- imports from earlier ones alone.
use Rattle.std.specs.Prelude.{ℕ, ◌≡◌, ◌<◌, List, Option, Some, None, map, All, slice_get}
use Rattle.cm_base.specs.declared.record.BuiltUnit.{BuiltUnit}
use Rattle.sml_syntax.specs.Code.{code_of}
use Rattle.sml_syntax.specs.ReadingUnit.{IsRead}
use Rattle.linker.specs.declared.program.LinkedUnit.{LinkedUnit}
use Rattle.linker.specs.declared.program.Linked.{Linked}
use Rattle.linker.specs.declared.program.ProgramUnit.{ProgramUnit}
use Rattle.linker.specs.declared.program.Program.{Program}
use Rattle.linker.specs.Spelling.{linked_file, CanBeSpelled}

-- a unit with its code as bytes
abbrev pub coded : ProgramUnit → LinkedUnit
coded unit = record { unit = unit.unit; imports = unit.imports; code = code_of unit.code }

-- a program with its codes as bytes
abbrev pub linked_of : Program → Linked
linked_of program = record { units = map coded program.units }

-- each unit imports from units that stand before it
abbrev pub ImportsEarlier : List ProgramUnit → Type 0
ImportsEarlier units =
    (place : ℕ) (unit : ProgramUnit) → slice_get units place ≡ Some unit
    → All (λ import. import.from < place) unit.imports

-- the bytes are the linked program of these units: the format's spelling of them, with the code of each unit's tree,
-- and each import comes from the place of an earlier unit
pub record IsProgram (bytes : List ℕ) (program : Program) : Type 0 where
  pub spelled : linked_file (linked_of program) ≡ bytes
  pub short : CanBeSpelled (linked_of program)
  pub codes : All (λ (unit : ProgramUnit). IsRead unit.code) program.units
  pub earlier : ImportsEarlier program.units

-- what the bytes are read as: the program that they are, or none where they are no program
abbrev pub ReadsProgram : List ℕ → Option Program → Type 0
ReadsProgram bytes (Some program) = IsProgram bytes program
ReadsProgram bytes None = (program : Program) → IsProgram bytes program → ⊥

-- a unit of this name is among the units that a build has done, and each of this name stands before the place
pub record StandsBefore (units : List BuiltUnit) (place : ℕ) (name : List ℕ) : Type 0 where
  pub some : (at : ℕ) × (unit : BuiltUnit) × (slice_get units at ≡ Some unit) × (unit.unit ≡ name)
  pub before : (at : ℕ) (unit : BuiltUnit) → slice_get units at ≡ Some unit → unit.unit ≡ name → at < place

-- each provider stands before its users
abbrev pub ProvidersFirst : List BuiltUnit → Type 0
ProvidersFirst units =
    (place : ℕ) (unit : BuiltUnit) → slice_get units place ≡ Some unit
    → All (λ import. StandsBefore units place import.provider) unit.imports
