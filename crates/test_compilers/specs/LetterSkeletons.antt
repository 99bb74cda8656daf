-- Skeletons whose names are letters: of sources that are written for tests.
use Rattle.std.specs.Prelude.{ℕ, ◌==◌, if◌then◌else◌, nat_lt, true, List, [], ◌∷◌, Result, Ok, Err, length, map}
use Rattle.cm_base.specs.Diags.{whole_file}
use Rattle.cm_base.specs.declared.diag.Diag.{Diag}
use Rattle.cm_base.specs.declared.record.Need.{Need}
use Rattle.cm_base.specs.declared.record.Skeleton.{Skeleton}
use Rattle.cm_base.specs.declared.record.Spot.{Spot}
use Rattle.cm_base.specs.declared.record.Namespace.TheVariants.{Structure}

-- the structure of a letter; each stands at the first byte
abbrev pub letter_spot : ℕ → Spot
letter_spot letter = record { name = record { space = Structure; name = letter ∷ [] }; line = 1; col = 1 }

-- .. and a use of it, which is sure
abbrev pub letter_need : ℕ → Need
letter_need letter = record { spot = letter_spot letter; sure = true }

-- the first letter is the structure that a source defines, and each behind it is one that it uses. None at all, a first
-- one that is `!`, and too many are refused
abbrev pub letter_skeleton : List ℕ → List ℕ → Result Skeleton Diag
letter_skeleton unit [] = Err (whole_file 20 unit)
letter_skeleton unit (letter ∷ used) =
    if letter == 33 then Err (whole_file 20 unit)
    else (if nat_lt 1048576 (length used) then Err (whole_file 12 unit)
    else Ok (record { defined = letter_spot letter ∷ []; free = map letter_need used }))
