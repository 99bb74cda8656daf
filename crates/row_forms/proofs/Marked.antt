-- Bytes that are marks.
use Rattle.std.proofs.Common.{◌≡◌, ◌≢◌, ℕ, ◌∙◌, List, [], ◌∷◌, ◌++◌, map, Bool, true, false, None}
use Rattle.interface_format.specs.Tags.{bool_byte}
use Rattle.row_forms.specs.Forms.{SpellMarks}

byte_at : (ms ns : List Bool) (b : ℕ) (rest : List ℕ) → map bool_byte ms ++ b ∷ rest ≡ map bool_byte ns → b ≢ 0 → b ≢ 1 → ⊥
byte_at [] [] b rest e zero one = cc
byte_at [] (true ∷ ns) b rest e zero one = one (cc)
byte_at [] (false ∷ ns) b rest e zero one = zero (cc)
byte_at (m ∷ ms) [] b rest e zero one = cc
byte_at (m ∷ ms) (n ∷ ns) b rest e zero one =
    let k : map bool_byte ms ++ b ∷ rest ≡ map bool_byte ns = cc in byte_at ms ns b rest k zero one

-- a byte that is no mark
pub no_mark : (bytes : List ℕ) (ms : List Bool) (b : ℕ) (rest : List ℕ) → map bool_byte ms ++ b ∷ rest ≡ bytes → b ≢ 0
    → b ≢ 1 → SpellMarks bytes None
no_mark bytes ms b rest e zero one marks h = byte_at ms marks b rest (e ∙ h) zero one
