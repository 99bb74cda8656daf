-- How a linked program is read: the steps that take it, its units and their imports from the front of some bytes.
use Rattle.std.specs.List.{list_all}
use Rattle.std.specs.Prelude.{ℕ, suc, List, [], ◌∷◌, Option, Some, None, Bool, true, ◌&&◌, nat_lt, if◌then◌else◌}
use Rattle.cm_base.specs.declared.record.Namespace.{Namespace}
use Rattle.cm_base.specs.declared.record.Namespace.TheVariants as space
use Rattle.cm_bytes.specs.Fields.{Step, ◌>>=◌, u32_at, text_at, list_at}
use Rattle.sml_syntax.specs.ReadingUnit.{unit_of, marked}
use Rattle.sml_syntax.specs.Steps.{made, both, Table, no_tag, or_tag, tagged, nothing_at}
use Rattle.sml_trees.specs.declared.unit.BareUnit.{BareUnit}
use Rattle.linker.specs.declared.program.LinkedImport.{LinkedImport}
use Rattle.linker.specs.declared.program.LinkedUnit.{LinkedUnit}
use Rattle.linker.specs.declared.program.Linked.{Linked}
use Rattle.linker.specs.declared.program.ProgramUnit.{ProgramUnit}
use Rattle.linker.specs.declared.program.Program.{Program}

-- the name space of each byte
abbrev pub space_table : Table Namespace
space_table =
    or_tag 0 (made (λ u. space.Structure) nothing_at) (
    or_tag 1 (made (λ u. space.Signature) nothing_at) (
    or_tag 2 (made (λ u. space.Functor) nothing_at) (
    or_tag 3 (made (λ u. space.Funsig) nothing_at) no_tag)))

-- a name space at the front
unfoldable pub space_at : Step Namespace
space_at = tagged space_table

-- an import: a name space, a name and a place
unfoldable pub linked_import_at : Step LinkedImport
linked_import_at =
    made (λ p. record { name = record { space = p.0; name = p.1.0 }; from = p.1.1 }) (both space_at (both text_at u32_at))

-- a unit with its code as a text: its name, its imports and the text
unfoldable pub linked_unit_at : Step LinkedUnit
linked_unit_at =
    made (λ p. record { unit = p.0; imports = p.1.0; code = p.1.1 }) (both text_at (both (list_at linked_import_at) text_at))

-- a linked program with its codes as texts: `CML1` and its units
unfoldable pub linked_at : Step Linked
linked_at = made (λ units. record { units = units }) (marked 67 (marked 77 (marked 76 (marked 49 (list_at linked_unit_at)))))

-- a unit that was read, and the bytes that are left
abbrev pub with_rest : List ℕ → BareUnit → Option (BareUnit × List ℕ)
with_rest rest unit = Some (unit, rest)

-- the unit whose code all of a text is, and the bytes that are left
abbrev pub code_read : List ℕ × List ℕ → Option (BareUnit × List ℕ)
code_read text = unit_of text.0 >>= with_rest text.1

-- the step that reads a text and the unit whose code all of it is
unfoldable pub unit_code_at : Step BareUnit
unit_code_at bytes = text_at bytes >>= code_read

-- a unit: its name, its imports and its code
unfoldable pub program_unit_at : Step ProgramUnit
program_unit_at =
    made (λ p. record { unit = p.0; imports = p.1.0; code = p.1.1 })
    (both text_at (both (list_at linked_import_at) unit_code_at))

-- a program, wherever its imports come from: `CML1` and its units
unfoldable pub units_at : Step (List ProgramUnit)
units_at = marked 67 (marked 77 (marked 76 (marked 49 (list_at program_unit_at))))

-- whether each of these imports comes from a place before this one
abbrev pub come_before : ℕ → List LinkedImport → Bool
come_before place imports = list_all (λ import. nat_lt import.from place) imports

-- whether each unit, of which the first has this place, imports from earlier ones alone
abbrev pub import_earlier : ℕ → List ProgramUnit → Bool
import_earlier place [] = true
import_earlier place (unit ∷ units) = come_before place unit.imports && import_earlier (suc place) units

-- units that are all of some bytes, where each imports from earlier ones alone
abbrev pub whole_program : List ProgramUnit × List ℕ → Option Program
whole_program (units, []) = if import_earlier 0 units then Some (record { units = units }) else None
whole_program (units, b ∷ rest) = None

-- the linked program that these bytes are
unfoldable pub program_of : List ℕ → Option Program
program_of bytes = units_at bytes >>= whole_program
