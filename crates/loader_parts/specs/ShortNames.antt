-- How long the names of what is loaded can be: a written path has at most 1,025 components of at most 200 bytes, and
-- each level below ROOT takes a name at most one written path further.
use Rattle.std.specs.Prelude.{ℕ, ◌+◌, ◌*◌, ◌≤◌, List, [], ◌∷◌, length, if◌then◌else◌}
use Rattle.std.specs.List.{AllByRecursion}
use Rattle.path_anchors.specs.Names.{is_marked, parts_of}

abbrev pub IsShortPart : List ℕ → Type 0
IsShortPart part = length part ≤ 200

-- the components of a name: short ones, and an anchor with its mark in front of them
abbrev pub AreNameParts : List (List ℕ) → Type 0
AreNameParts [] = Unit {0}
AreNameParts (first ∷ parts) =
    (length first ≤ (if is_marked first then 201 else 200)) × AllByRecursion IsShortPart parts

-- a name that has room for so many written paths behind it
pub record IsNear (levels : ℕ) (name : List ℕ) : Type 0 where
  pub parts : AreNameParts (parts_of name)
  pub count : length (parts_of name) + 1025 * levels ≤ 1025 * 516
