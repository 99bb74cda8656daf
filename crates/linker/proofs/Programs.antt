-- A linked program is read from its bytes, whatever is read is the linked program that the bytes are, and linking
-- gives a program that is read.
use Rattle.std.proofs.Common.{◌≡◌, ℕ, zero, suc, ◌+◌, ◌^◌, ◌<◌, Bool, true, false, cond, List, [], ◌∷◌, ◌++◌, length, map, All, Option, Some, None, Err, refl, sym, ap, subst, ◌∙◌, arith}
use Rattle.std.specs.Prelude.{slice_get, ◌&&◌, nat_lt}
use Rattle.std.specs.List.{flat_map}
use Rattle.std.proofs.lemmas.Bool.{ltb-true, lt-ltb}
use Rattle.std.proofs.lemmas.List.{append-nil, length-map}
use Rattle.std.proofs.lemmas.List.Concat.{flat_map-cons}
use Rattle.std.proofs.lemmas.List.Elements.{All-nil, All-cons, All-head, All-tail}
use Rattle.cm_bytes.specs.Fields.{◌>>=◌, IsBytes, u32_of, list_of}
use Rattle.cm_bytes.proofs.Fields.{bind_some, some_is}
use Rattle.sml_syntax.specs.ReadingUnit.{IsRead}
use Rattle.sml_syntax.specs.declared.fault.CodeFault.{CodeFault}
use Rattle.sml_syntax.specs.declared.fault.CodeFault.TheVariants as fault
use Rattle.linker.specs.declared.program.LinkedImport.{LinkedImport}
use Rattle.linker.specs.declared.program.Linked.{Linked}
use Rattle.linker.specs.declared.program.ProgramUnit.{ProgramUnit}
use Rattle.linker.specs.declared.program.Program.{Program}
use Rattle.linker.specs.Spelling.{linked_unit_of, linked_file, IsShortImport, IsShortUnit, HasSmallPlaces, CanBeSpelled}
use Rattle.linker.specs.Reading.{units_at, come_before, import_earlier, whole_program, program_of}
use Rattle.linker.specs.Answers.{IsProgramOf}
use Rattle.linker.specs.Programs.{coded, linked_of, ImportsEarlier, IsProgram, ReadsProgram}
use Rattle.linker.proofs.Spelled.{imports_fit}
use Rattle.linker.proofs.Exact.{FitsImport, program_unit_of, FitsUnit, units_of, FitsUnits, units_exact}

-- ---- imports from earlier units, as a test and as a statement

both_true : (a b : Bool) → (a && b) ≡ true → (a ≡ true) × (b ≡ true)
both_true true b e = (refl, e)
both_true false b e = absurd cc

comes_before : (place : ℕ) (imports : List LinkedImport) → come_before place imports ≡ true
    → All (λ (i : LinkedImport). i.from < place) imports
comes_before place [] e = All-nil (λ (i : LinkedImport). i.from < place)
comes_before place (i ∷ is) e =
    let both = both_true (nat_lt i.from place) (come_before place is) e in
    All-cons (λ (i : LinkedImport). i.from < place) i is (ltb-true i.from place both.0) (comes_before place is both.1)

before_comes : (place : ℕ) (imports : List LinkedImport) → All (λ (i : LinkedImport). i.from < place) imports
    → come_before place imports ≡ true
before_comes place [] h = refl
before_comes place (i ∷ is) h =
    rw (lt-ltb i.from place (All-head (λ (i : LinkedImport). i.from < place) i is h))
    (before_comes place is (All-tail (λ (i : LinkedImport). i.from < place) i is h))

-- each unit imports from before its place, where the first unit has this one
abbrev EarlierFrom : ℕ → List ProgramUnit → Type 0
EarlierFrom first units =
    (at : ℕ) (unit : ProgramUnit) → slice_get units at ≡ Some unit
    → All (λ (i : LinkedImport). i.from < first + at) unit.imports

earlier_all : (first : ℕ) (units : List ProgramUnit) → import_earlier first units ≡ true → EarlierFrom first units
earlier_all first [] e at unit found = absurd cc
earlier_all first (u ∷ us) e zero unit found =
    let both = both_true (come_before first u.imports) (import_earlier (suc first) us) e in
    let here : first ≡ first + 0 = omega arith in
    let same : u ≡ unit = cc in
    subst (λ (v : ProgramUnit). All (λ (i : LinkedImport). i.from < first + 0) v.imports) same
    (subst (λ (n : ℕ). All (λ (i : LinkedImport). i.from < n) u.imports) here (comes_before first u.imports both.0))
earlier_all first (u ∷ us) e (suc at) unit found =
    let both = both_true (come_before first u.imports) (import_earlier (suc first) us) e in
    let there : suc first + at ≡ first + suc at = omega arith in
    subst (λ (n : ℕ). All (λ (i : LinkedImport). i.from < n) unit.imports) there
    (earlier_all (suc first) us both.1 at unit found)

all_earlier : (first : ℕ) (units : List ProgramUnit) → EarlierFrom first units → import_earlier first units ≡ true
all_earlier first [] h = refl
all_earlier first (u ∷ us) h =
    let here : first + 0 ≡ first = omega arith in
    let head = subst (λ (n : ℕ). All (λ (i : LinkedImport). i.from < n) u.imports) here (h 0 u refl) in
    let tail : EarlierFrom (suc first) us =
    λ at unit found.
    let there : first + suc at ≡ suc first + at = omega arith in
    subst (λ (n : ℕ). All (λ (i : LinkedImport). i.from < n) unit.imports) there (h (suc at) unit found) in
    rw (before_comes first u.imports head) (all_earlier (suc first) us tail)

-- the same from the first unit on
to_earlier : (units : List ProgramUnit) → EarlierFrom 0 units → ImportsEarlier units
to_earlier units h = λ place unit found.
    let same : 0 + place ≡ place = omega arith in
    subst (λ (n : ℕ). All (λ (i : LinkedImport). i.from < n) unit.imports) same (h place unit found)

from_earlier : (units : List ProgramUnit) → ImportsEarlier units → EarlierFrom 0 units
from_earlier units h = λ at unit found.
    let same : at ≡ 0 + at = omega arith in
    subst (λ (n : ℕ). All (λ (i : LinkedImport). i.from < n) unit.imports) same (h at unit found)

-- ---- the bytes of a program are those of its units with their codes as bytes

flat_coded : (units : List ProgramUnit) → flat_map linked_unit_of (map coded units) ≡ flat_map program_unit_of units
unfolding linked_unit_of
flat_coded [] = refl
flat_coded (u ∷ us) =
    flat_map-cons linked_unit_of (coded u) (map coded us)
    ∙ ap (λ (bytes : List ℕ). program_unit_of u ++ bytes) (flat_coded us)
    ∙ sym (flat_map-cons program_unit_of u us)

file_is : (program : Program) → linked_file (linked_of program) ≡ units_of program.units
unfolding linked_file list_of
file_is program =
    let count : length (map coded program.units) ≡ length program.units = length-map program.units coded in
    ap (λ (n : ℕ). 67 ∷ 77 ∷ 76 ∷ 49 ∷ (u32_of n ++ flat_map linked_unit_of (map coded program.units))) count
    ∙ ap (λ (bytes : List ℕ). 67 ∷ 77 ∷ 76 ∷ 49 ∷ (u32_of (length program.units) ++ bytes)) (flat_coded program.units)

-- ---- what fits can be spelled, and the other way round

imports_short : (imports : List LinkedImport) → All FitsImport imports → All IsShortImport imports
imports_short [] h = All-nil IsShortImport
imports_short (i ∷ is) h =
    All-cons IsShortImport i is (record { name = (All-head FitsImport i is h).1.0 })
    (imports_short is (All-tail FitsImport i is h))

imports_small : (imports : List LinkedImport) → All FitsImport imports → All (λ (i : LinkedImport). i.from < 2 ^ 32) imports
imports_small [] h = All-nil (λ (i : LinkedImport). i.from < 2 ^ 32)
imports_small (i ∷ is) h =
    All-cons (λ (i : LinkedImport). i.from < 2 ^ 32) i is (All-head FitsImport i is h).1.1
    (imports_small is (All-tail FitsImport i is h))

units_short : (units : List ProgramUnit) → All FitsUnit units → All IsShortUnit (map coded units)
units_short [] h = All-nil IsShortUnit
units_short (u ∷ us) h =
    let fits = All-head FitsUnit u us h in
    All-cons IsShortUnit (coded u) (map coded us) (record {
      name = fits.0;
      imports = fits.1.0.0;
      code = fits.1.1.1;
      each = imports_short u.imports fits.1.0.1;
    }) (units_short us (All-tail FitsUnit u us h))

units_small : (units : List ProgramUnit) → All FitsUnit units → All HasSmallPlaces (map coded units)
units_small [] h = All-nil HasSmallPlaces
units_small (u ∷ us) h =
    All-cons HasSmallPlaces (coded u) (map coded us)
    (record { each = imports_small u.imports (All-head FitsUnit u us h).1.0.1 })
    (units_small us (All-tail FitsUnit u us h))

units_read : (units : List ProgramUnit) → All FitsUnit units → All (λ (unit : ProgramUnit). IsRead unit.code) units
units_read [] h = All-nil (λ (unit : ProgramUnit). IsRead unit.code)
units_read (u ∷ us) h =
    All-cons (λ (unit : ProgramUnit). IsRead unit.code) u us (All-head FitsUnit u us h).1.1.0
    (units_read us (All-tail FitsUnit u us h))

units_fit : (units : List ProgramUnit) → All IsShortUnit (map coded units) → All HasSmallPlaces (map coded units)
    → All (λ (unit : ProgramUnit). IsRead unit.code) units → All FitsUnit units
units_fit [] h k r = All-nil FitsUnit
units_fit (u ∷ us) h k r =
    let short = All-head IsShortUnit (coded u) (map coded us) h in
    let small = All-head HasSmallPlaces (coded u) (map coded us) k in
    All-cons FitsUnit u us (
      short.name,
      (
        (short.imports, imports_fit u.imports short.each small.each),
        (All-head (λ (unit : ProgramUnit). IsRead unit.code) u us r, short.code),
      ),
    ) (units_fit us (All-tail IsShortUnit (coded u) (map coded us) h) (All-tail HasSmallPlaces (coded u) (map coded us) k)
    (All-tail (λ (unit : ProgramUnit). IsRead unit.code) u us r))

fits_spelled : (program : Program) → FitsUnits program.units → CanBeSpelled (linked_of program)
fits_spelled program fits = record {
  short = record {
    units = omega (arith, fits.0, length-map program.units coded);
    each = units_short program.units fits.1;
  };
  places = units_small program.units fits.1;
}

spelled_fits : (program : Program) → CanBeSpelled (linked_of program)
    → All (λ (unit : ProgramUnit). IsRead unit.code) program.units → FitsUnits program.units
spelled_fits program can read = (
  omega (arith, can.short.units, length-map program.units coded),
  units_fit program.units can.short.each can.places read,
)

-- ---- reading

-- a program is read from its bytes
pub program_again : (bytes : List ℕ) (program : Program) → IsProgram bytes program → program_of bytes ≡ Some program
unfolding program_of
program_again bytes program is =
    let fits = spelled_fits program is.short is.codes in
    let read = (units_exact.again program.units fits).again [] in
    let bytes_are : bytes ≡ units_of program.units ++ [] =
    sym is.spelled ∙ file_is program ∙ sym (append-nil (units_of program.units)) in
    let earlier : import_earlier 0 program.units ≡ true = all_earlier 0 program.units (from_earlier program.units is.earlier) in
    ap (λ (b : List ℕ). units_at b >>= whole_program) bytes_are
    ∙ ap (λ (r : Option (List ProgramUnit × List ℕ)). r >>= whole_program) read
    ∙ ap (λ (test : Bool). cond test (Some program) None) earlier

-- what is read to the end, by the test
whole_by : (test : Bool) (units : List ProgramUnit) (program : Program) → cond test (Some (record { units = units })) None ≡ Some program
    → (test ≡ true) × (program ≡ record { units = units })
whole_by true units program e = (refl, cc)
whole_by false units program e = absurd cc

whole_is : (units : List ProgramUnit) (rest : List ℕ) (program : Program) → whole_program (units, rest) ≡ Some program
    → (rest ≡ []) × (import_earlier 0 units ≡ true) × (program ≡ record { units = units })
whole_is units [] program e =
    let by = whole_by (import_earlier 0 units) units program e in (refl, by.0, by.1)
whole_is units (b ∷ rest) program e = absurd cc

-- what is read is the program that the bytes are
pub program_spelled : (bytes : List ℕ) (program : Program) → IsBytes bytes → program_of bytes ≡ Some program
    → IsProgram bytes program
unfolding program_of
program_spelled bytes program h e =
    let one = bind_some (units_at bytes) whole_program program e in
    let units = one.0.0 in
    let rest = one.0.1 in
    let end = whole_is units rest program one.2 in
    let takes = units_exact.spelled.takes bytes units rest h one.1 in
    let fits = units_exact.spelled.fits bytes units rest h one.1 in
    let made : Program = record { units = units } in
    let spelled : linked_file (linked_of made) ≡ bytes =
    file_is made ∙ sym (takes.parts ∙ ap (λ (r : List ℕ). units_of units ++ r) end.0 ∙ append-nil (units_of units)) in
    let is : IsProgram bytes made = record {
      spelled = spelled;
      short = fits_spelled made fits;
      codes = units_read units fits.1;
      earlier = to_earlier units (earlier_all 0 units end.1);
    } in
    subst (IsProgram bytes) (sym end.2) is

-- what is read from the bytes is the program that they are, and where nothing is they are none
pub reads_program : (bytes : List ℕ) (found : Option Program) → IsBytes bytes → found ≡ program_of bytes
    → ReadsProgram bytes found
reads_program bytes (Some program) h is = program_spelled bytes program h (sym is)
reads_program bytes None h is = λ program isp.
    let none : None ≡ Some program = is ∙ program_again bytes program isp in
    absurd cc

-- where the bytes are refused they are no program's
pub no_program : (bytes : List ℕ) (why : CodeFault) → IsBytes bytes → why ≡ fault.BadCode → IsProgramOf bytes (Err why)
    → (program : Program) → IsProgram bytes program → ⊥
no_program bytes fault.BadCode h same none = reads_program bytes None h (sym none)
no_program bytes fault.NoMemory h same none = absurd cc

-- ---- laws

-- bytes are one program at most
pub one_program : (bytes : List ℕ) (a b : Program) → IsProgram bytes a → IsProgram bytes b → a ≡ b
one_program bytes a b f g = some_is a b (sym (program_again bytes a f) ∙ program_again bytes b g)

-- a program has one spelling, and no front of one is one
pub program_front : (front more : List ℕ) (a b : Program) → IsProgram front a → IsProgram (front ++ more) b
    → (a ≡ b) × (more ≡ [])
program_front front more a b f g =
    let fits = spelled_fits a f.short f.codes in
    let read_a = (units_exact.again a.units fits).again more in
    let read_b = (units_exact.again b.units (spelled_fits b g.short g.codes)).again [] in
    let bytes_a : units_of a.units ++ more ≡ front ++ more =
    ap (λ (t : List ℕ). t ++ more) (sym (file_is a) ∙ f.spelled) in
    let bytes_b : front ++ more ≡ units_of b.units ++ [] =
    sym g.spelled ∙ file_is b ∙ sym (append-nil (units_of b.units)) in
    let both = sym read_a ∙ ap units_at (bytes_a ∙ bytes_b) ∙ read_b in
    let pair : (a.units, more) ≡ (b.units, []) = cc in
    (ap (λ (p : List ProgramUnit × List ℕ). record { units = p.0 }) pair, ap (λ (p : List ProgramUnit × List ℕ). p.1) pair)

-- what is written of units whose codes are codes and whose imports are earlier is read as these units
pub written_again : (linked : Linked) (program : Program) → CanBeSpelled linked → linked_of program ≡ linked
    → All (λ (unit : ProgramUnit). IsRead unit.code) program.units → ImportsEarlier program.units
    → program_of (linked_file linked) ≡ Some program
written_again linked program can same codes earlier =
    program_again (linked_file linked) program (record {
      spelled = ap linked_file same;
      short = subst CanBeSpelled (sym same) can;
      codes = codes;
      earlier = earlier;
    })
