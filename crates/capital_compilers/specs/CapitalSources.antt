-- Sources in which each capital letter, with the digits behind it, is the name of a structure. The first one is the
-- structure that the source defines, and each later one is one that it uses.
use Rattle.std.specs.Prelude.{ℕ, if◌then◌else◌, nat_lt, true, Bool, List, [], ◌∷◌, Result, Ok, Err, length, map, take}
use Rattle.std.specs.List.{prefix_len}
use Rattle.cm_base.specs.ByteClasses.{between, is_digit}
use Rattle.cm_base.specs.Diags.{whole_file}
use Rattle.cm_base.specs.declared.diag.Diag.{Diag}
use Rattle.cm_base.specs.declared.record.CompileInput.{CompileInput}
use Rattle.cm_base.specs.declared.record.Compiled.{Compiled}
use Rattle.cm_base.specs.declared.record.Need.{Need}
use Rattle.cm_base.specs.declared.record.Skeleton.{Skeleton}
use Rattle.cm_base.specs.declared.record.Spot.{Spot}
use Rattle.cm_base.specs.declared.record.Namespace.TheVariants.{Structure}

-- ---- names

abbrev pub is_capital : ℕ → Bool
is_capital byte = between 65 90 byte

-- the name of a letter and the text behind it
abbrev pub name_of : ℕ → List ℕ → List ℕ
name_of letter behind = letter ∷ take (prefix_len is_digit behind) behind

abbrev pub names_of : List ℕ → List (List ℕ)
names_of [] = []
names_of (byte ∷ behind) = if is_capital byte then name_of byte behind ∷ names_of behind else names_of behind

-- ---- skeletons

-- the structure of a name, of which 255 bytes count; each stands at the first byte
abbrev pub spot_of : List ℕ → Spot
spot_of name = record { name = record { space = Structure; name = take 255 name }; line = 1; col = 1 }

-- .. and a use of it, which is sure
abbrev pub use_of : List ℕ → Need
use_of name = record { spot = spot_of name; sure = true }

-- no name at all, and too many, are refused
abbrev pub named_skeleton : List ℕ → List (List ℕ) → Result Skeleton Diag
named_skeleton unit [] = Err (whole_file 20 unit)
named_skeleton unit (name ∷ used) =
    if nat_lt 1048576 (length used) then Err (whole_file 12 unit)
    else Ok (record { defined = spot_of name ∷ []; free = map use_of used })

abbrev pub capital_skeleton : List ℕ → List ℕ → Result Skeleton Diag
capital_skeleton unit source = named_skeleton unit (names_of source)

-- ---- interfaces

-- a compiler whose interfaces show nothing of a source, and one whose interfaces are the sources; the code is the source
abbrev pub quiet : CompileInput → Result Compiled Diag
quiet input = Ok (record { interface = []; code = input.source })

abbrev pub shown : CompileInput → Result Compiled Diag
shown input = Ok (record { interface = input.source; code = input.source })
