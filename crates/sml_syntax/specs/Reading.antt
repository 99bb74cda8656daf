-- How the code of a unit is read, step by step, and which trees it is the code of. A tree that is read stands
-- nowhere: its places are 0.
use Rattle.std.specs.Prelude.{◌≡◌, ℕ, ℤ, FitsSigned, zero, suc, ◌<◌, ◌^◌, List, [], ◌∷◌, length, All, Option, Some, None}
use Rattle.cm_bytes.specs.Fields.{Step, raw_at, text_at, list_at}
use Rattle.std.specs.Int.{w64, from_be_bytes, cast_signed}
use Rattle.sml_syntax.specs.Steps.{made, both, Table, no_tag, or_tag, tagged}
use Rattle.sml_trees.specs.declared.name.At.{At}
use Rattle.sml_trees.specs.declared.name.Name.{Name}
use Rattle.sml_trees.specs.declared.name.LongName.{LongName}
use Rattle.sml_trees.specs.declared.ty.Ty.{Ty, out-Ty}
use Rattle.sml_trees.specs.declared.ty.Ty.TheOpen.{Ty-F}
use Rattle.sml_trees.specs.declared.ty.Ty.TheVariants as ty
use Rattle.sml_trees.specs.declared.ty.TyField.{TyField, out-TyField, roll-TyField}

-- ---- names

-- the place of every node that is read
abbrev pub nowhere : At
nowhere = record { line = 0; col = 0 }

abbrev pub name_nowhere : List ℕ → Name
name_nowhere text = record { text = text; line = 0; col = 0 }

abbrev pub long_nowhere : List (List ℕ) → LongName
long_nowhere parts = record { parts = parts; line = 0; col = 0 }

-- a length that four bytes hold
abbrev pub IsShort : {A : Type 0} → List A → Type 0
IsShort xs = length xs < 2 ^ 32

-- the step that reads a name, and the names that it reads
unfoldable pub name_at : Step Name
name_at = made name_nowhere text_at

pub record IsName (name : Name) : Type 0 where
  pub short : IsShort name.text
  pub at : name ≡ name_nowhere name.text

-- the same of long identifiers
unfoldable pub long_at : Step LongName
long_at = made long_nowhere (list_at text_at)

pub record IsLong (long : LongName) : Type 0 where
  pub short : IsShort long.parts
  pub each : All IsShort long.parts
  pub at : long ≡ long_nowhere long.parts

-- ---- integers, bytes, and what may be absent

-- the step that reads eight bytes as a number
unfoldable pub u64_at : Step ℕ
u64_at = made (from_be_bytes w64) (raw_at 8)

-- the step that reads an integer, and the integers that it reads: those of 64 bits with a sign
unfoldable pub int_at : Step ℤ
int_at = made (cast_signed w64) u64_at

pub record IsInt (n : ℤ) : Type 0 where
  pub fits : FitsSigned w64 n

abbrev pub byte_of : ℕ → List ℕ
byte_of byte = byte ∷ []

abbrev pub IsByte : ℕ → Type 0
IsByte byte = byte < 256

abbrev pub IfThere : {A : Type 0} → (A → Type 0) → Option A → Type 0
IfThere Is None = Unit {0}
IfThere Is (Some x) = Is x

-- ---- types

unfoldable pub ty_field_at : Step Ty → Step TyField
ty_field_at ty_at = made (λ p. roll-TyField (record { label = p.0; ty = p.1 })) (both name_at ty_at)

-- what is read after each tag of a type, where a type within it is read so
abbrev pub ty_table : Step Ty → Table Ty
ty_table ty_at =
    or_tag 48 (made (λ name. ty.Var name nowhere) name_at) (
    or_tag 49 (made (λ fields. ty.Record fields nowhere) (list_at (ty_field_at ty_at))) (
    or_tag 50 (made (λ p. ty.Named p.0 p.1 nowhere) (both (list_at ty_at) long_at)) (
    or_tag 51 (made (λ p. ty.Arrow p.0 p.1 nowhere) (both ty_at ty_at)) no_tag)))

-- the step that reads a type of at most so many tags in one another
abbrev pub ty_at : ℕ → Step Ty
ty_at zero = λ bytes. None
ty_at (suc n) = tagged (ty_table (ty_at n))

-- a list that has a spelling, and whose items have one
abbrev pub AreAll : {A : Type 0} → (A → Type 0) → List A → Type 0
AreAll Is xs = IsShort xs × All Is xs

abbrev pub IsTyField : (Ty → Type 0) → TyField → Type 0
IsTyField Is field = IsName (out-TyField field).label × Is (out-TyField field).ty

-- a level of a type, where each type within it is one
abbrev pub ty_is : (Ty → Type 0) → Ty-F Ty TyField → Type 0
ty_is Is (Ty-F.Var name at) = IsName name × (at ≡ nowhere)
ty_is Is (Ty-F.Record fields at) = AreAll (IsTyField Is) fields × (at ≡ nowhere)
ty_is Is (Ty-F.Named args long at) = (AreAll Is args × IsLong long) × (at ≡ nowhere)
ty_is Is (Ty-F.Arrow from to at) = (Is from × Is to) × (at ≡ nowhere)

-- a type that has a spelling of at most so many tags in one another, and stands nowhere
abbrev pub IsTy : ℕ → Ty → Type 0
IsTy zero x = ⊥
IsTy (suc n) x = ty_is (IsTy n) (out-Ty x)
