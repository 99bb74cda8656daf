-- Each step of reading a linked program is exact: what is spelled is read again, and what is read is spelled so.
use Rattle.std.proofs.Common.{◌≡◌, ℕ, ◌^◌, ◌<◌, List, [], ◌∷◌, ◌++◌, length, All, Some, refl, sym, subst}
use Rattle.cm_base.specs.declared.record.Namespace.{Namespace}
use Rattle.cm_base.specs.declared.record.Namespace.TheVariants as space
use Rattle.cm_bytes.specs.Fields.{◌>>=◌, IsBytes, IsReadAgain, Takes, byte_at, space_byte, u32_of, u32_at, text_of, text_at, list_of}
use Rattle.cm_bytes.proofs.Fields.{bind_some, some_is, IsBytes-append_right, text_again, text_takes, u32_is_read_again, u32_reads_spelled}
use Rattle.sml_syntax.specs.Code.{code_of}
use Rattle.sml_syntax.specs.ReadingUnit.{unit_of, IsRead}
use Rattle.sml_syntax.specs.Steps.{IsExact, made, or_tag, tagged}
use Rattle.sml_syntax.proofs.Exact.{made_exact, both_exact, text_exact, list_exact, nothing_exact, marked_exact, tagged_spelled, tagged_again, no_tag_spells, or_tag_spells}
use Rattle.sml_syntax.proofs.ReadUnit.{unit_again, unit_spelled}
use Rattle.sml_trees.specs.declared.unit.BareUnit.{BareUnit}
use Rattle.linker.specs.declared.program.LinkedImport.{LinkedImport}
use Rattle.linker.specs.declared.program.LinkedUnit.{LinkedUnit}
use Rattle.linker.specs.declared.program.Linked.{Linked}
use Rattle.linker.specs.declared.program.ProgramUnit.{ProgramUnit}
use Rattle.linker.specs.Spelling.{linked_import_of, linked_unit_of, linked_file}
use Rattle.linker.specs.Reading.{space_table, space_at, linked_import_at, linked_unit_at, linked_at, with_rest, code_read, unit_code_at, program_unit_at, units_at}

-- ---- name spaces

-- the byte of a name space, alone
abbrev space_of : Namespace → List ℕ
space_of s = space_byte s ∷ []

-- each name space has a byte
abbrev AnySpace : Namespace → Type 0
AnySpace s = Unit {0}

abbrev to : Namespace → Unit {0} → Namespace
to s u = s

space_exact : IsExact space_of space_at AnySpace
unfolding space_at or_tag made
space_exact = record {
  again = again;
  spelled = tagged_spelled (
      or_tag_spells 0 (to space.Structure) nothing_exact (λ u. refl) (λ u fits. tt) (
      or_tag_spells 1 (to space.Signature) nothing_exact (λ u. refl) (λ u fits. tt) (
      or_tag_spells 2 (to space.Functor) nothing_exact (λ u. refl) (λ u fits. tt) (
      or_tag_spells 3 (to space.Funsig) nothing_exact (λ u. refl) (λ u fits. tt) (
      no_tag_spells space_of AnySpace)))));
}
  where
    again : (s : Namespace) → AnySpace s → IsReadAgain space_of (tagged space_table) s
    again space.Structure h = tagged_again space_of space_table 0 (to space.Structure) nothing_exact tt tt refl refl
    again space.Signature h = tagged_again space_of space_table 1 (to space.Signature) nothing_exact tt tt refl refl
    again space.Functor h = tagged_again space_of space_table 2 (to space.Functor) nothing_exact tt tt refl refl
    again space.Funsig h = tagged_again space_of space_table 3 (to space.Funsig) nothing_exact tt tt refl refl

-- the byte 1 is read as that of signatures
pub signature_read : (bytes rest : List ℕ) (tag : ℕ) → byte_at bytes ≡ Some (tag, rest) → tag ≡ 1
    → space_at bytes ≡ Some (space.Signature, rest)
unfolding space_at tagged or_tag made
signature_read bytes rest tag read one = rw (read, one) refl

-- ---- imports

-- a number of four bytes
u32_exact : IsExact u32_of u32_at (λ n. n < 2 ^ 32)
u32_exact = record { again = u32_is_read_again; spelled = u32_reads_spelled }

-- an import whose name and place fit
abbrev pub FitsImport : LinkedImport → Type 0
FitsImport import = AnySpace import.name.space × ((length import.name.name < 2 ^ 32) × (import.from < 2 ^ 32))

import_exact : IsExact linked_import_of linked_import_at FitsImport
unfolding linked_import_of linked_import_at
import_exact =
    made_exact linked_import_of FitsImport
    (λ (p : Namespace × (List ℕ × ℕ)). record { name = record { space = p.0; name = p.1.0 }; from = p.1.1 })
    (λ (import : LinkedImport). (import.name.space, (import.name.name, import.from)))
    (both_exact space_exact (both_exact text_exact u32_exact))
    (λ p fits. refl) (λ p fits. fits) (λ import fits. (refl, fits))

-- ---- programs with their codes as texts

-- a unit whose parts fit
abbrev pub FitsLinkedUnit : LinkedUnit → Type 0
FitsLinkedUnit unit =
    (length unit.unit < 2 ^ 32)
    × (((length unit.imports < 2 ^ 32) × All FitsImport unit.imports) × (length unit.code < 2 ^ 32))

linked_unit_exact : IsExact linked_unit_of linked_unit_at FitsLinkedUnit
unfolding linked_unit_of linked_unit_at
linked_unit_exact =
    made_exact linked_unit_of FitsLinkedUnit
    (λ (p : List ℕ × (List LinkedImport × List ℕ)). record { unit = p.0; imports = p.1.0; code = p.1.1 })
    (λ (unit : LinkedUnit). (unit.unit, (unit.imports, unit.code)))
    (both_exact text_exact (both_exact (list_exact import_exact) text_exact))
    (λ p fits. refl) (λ p fits. fits) (λ unit fits. (refl, fits))

-- fewer than 2^32 units whose parts fit
abbrev pub FitsLinked : Linked → Type 0
FitsLinked linked = (length linked.units < 2 ^ 32) × All FitsLinkedUnit linked.units

pub linked_exact : IsExact linked_file linked_at FitsLinked
unfolding linked_file linked_at
linked_exact =
    made_exact linked_file FitsLinked (λ (units : List LinkedUnit). record { units = units })
    (λ (linked : Linked). linked.units)
    (marked_exact 67 (marked_exact 77 (marked_exact 76 (marked_exact 49 (list_exact linked_unit_exact)))))
    (λ units fits. refl) (λ units fits. fits) (λ linked fits. (refl, fits))

-- ---- codes

-- the text of a unit's code
abbrev pub unit_code_of : BareUnit → List ℕ
unit_code_of unit = text_of (code_of unit)

-- a unit that has a code, of fewer than 2^32 bytes
abbrev pub FitsCode : BareUnit → Type 0
FitsCode unit = IsRead unit × (length (code_of unit) < 2 ^ 32)

IsBytes-of_text : (text : List ℕ) → IsBytes (text_of text) → IsBytes text
unfolding text_of
IsBytes-of_text text h = IsBytes-append_right (u32_of (length text)) text h

code_exact : IsExact unit_code_of unit_code_at FitsCode
unfolding unit_code_at
code_exact = record {
  again = λ unit fits. record {
    again = λ rest. rw (text_again (code_of unit) rest fits.1, unit_again unit fits.0) refl;
  };
  spelled = record {
    takes = λ bytes unit rest h e. (parts bytes unit rest h e).0;
    fits = λ bytes unit rest h e. (parts bytes unit rest h e).1;
  };
}
  where
    parts : (bytes : List ℕ) (unit : BareUnit) (rest : List ℕ) → IsBytes bytes
        → (text_at bytes >>= code_read) ≡ Some (unit, rest)
        → Takes bytes (unit_code_of unit) rest × FitsCode unit
    parts bytes unit rest h e =
        let one = bind_some (text_at bytes) code_read (unit, rest) e in
        let text = one.0 in
        let two = bind_some (unit_of text.0) (with_rest text.1) (unit, rest) one.2 in
        let got = two.0 in
        let read = text_takes bytes text.0 text.1 h one.1 in
        let is = unit_spelled text.0 got (IsBytes-of_text text.0 read.0.front) two.1 in
        let takes : Takes bytes (unit_code_of got) text.1 =
        subst (λ (code : List ℕ). Takes bytes (text_of code) text.1) (sym is.0) read.0 in
        let short : length (code_of got) < 2 ^ 32 = subst (λ (code : List ℕ). length code < 2 ^ 32) (sym is.0) read.1 in
        let pair : BareUnit × List ℕ = (got, text.1) in
        subst (λ (q : BareUnit × List ℕ). Takes bytes (unit_code_of q.0) q.1 × FitsCode q.0)
        (some_is pair (unit, rest) two.2) (takes, (is.1, short))

-- ---- units

-- the bytes of a unit
abbrev pub program_unit_of : ProgramUnit → List ℕ
program_unit_of unit = text_of unit.unit ++ (list_of linked_import_of unit.imports ++ unit_code_of unit.code)

-- a unit whose parts fit
abbrev pub FitsUnit : ProgramUnit → Type 0
FitsUnit unit =
    (length unit.unit < 2 ^ 32)
    × (((length unit.imports < 2 ^ 32) × All FitsImport unit.imports) × FitsCode unit.code)

unit_exact : IsExact program_unit_of program_unit_at FitsUnit
unfolding program_unit_at
unit_exact =
    made_exact program_unit_of FitsUnit
    (λ (p : List ℕ × (List LinkedImport × BareUnit)). record { unit = p.0; imports = p.1.0; code = p.1.1 })
    (λ (unit : ProgramUnit). (unit.unit, (unit.imports, unit.code)))
    (both_exact text_exact (both_exact (list_exact import_exact) code_exact))
    (λ p fits. refl) (λ p fits. fits) (λ unit fits. (refl, fits))

-- the bytes of a program
abbrev pub units_of : List ProgramUnit → List ℕ
units_of units = 67 ∷ 77 ∷ 76 ∷ 49 ∷ list_of program_unit_of units

-- fewer than 2^32 units whose parts fit
abbrev pub FitsUnits : List ProgramUnit → Type 0
FitsUnits units = (length units < 2 ^ 32) × All FitsUnit units

pub units_exact : IsExact units_of units_at FitsUnits
unfolding units_at
units_exact = marked_exact 67 (marked_exact 77 (marked_exact 76 (marked_exact 49 (list_exact unit_exact))))
