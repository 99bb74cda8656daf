-- The part of a path in the store that belongs to a unit.
use Rattle.std.proofs.Common.{◌≡◌, refl, ℕ, ◌≤◌, List, ◌∷◌, length, drop, arith}
use Rattle.bin_store.specs.Paths.{bin_path, tool_path, unit_path}

-- a record stands below `.cm/tool/` as a binfile stands below `.cm/bin/`
pub unit_part : (unit : List ℕ) → 46 ∷ 99 ∷ 109 ∷ 47 ∷ 116 ∷ 111 ∷ 111 ∷ 108 ∷ 47 ∷ drop 8 (bin_path unit) ≡ tool_path unit
unfolding bin_path tool_path
unit_part unit = refl

pub beside_is_long : (unit : List ℕ) → 8 ≤ length (bin_path unit)
unfolding bin_path
beside_is_long unit = omega arith
