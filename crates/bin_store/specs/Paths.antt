-- Where the store keeps its files: all of it lies under `.cm/`.
use Rattle.std.specs.Prelude.{ℕ, ◌==◌, ◌≡◌, List, [], ◌∷◌, if◌then◌else◌}
use Rattle.std.specs.List.{slice_split, join_with_byte}
use Rattle.cm_base.specs.declared.record.Pid.{Pid}
use Rattle.cm_bytes.specs.Hashes.{pid_text}

-- the components of a unit's name as they stand in the store: `=` before the last one, and `_` before each
-- directory; the first component of an anchored name, `$a`, stays
abbrev pub directory_part : List ℕ → List ℕ
directory_part part = 95 ∷ part

-- those after the first
abbrev pub later_parts : List (List ℕ) → List (List ℕ)
later_parts [] = []
later_parts (part ∷ []) = (61 ∷ part) ∷ []
later_parts (part ∷ next ∷ parts) = directory_part part ∷ later_parts (next ∷ parts)

-- the first of several
abbrev pub first_part : List ℕ → List ℕ
first_part [] = directory_part []
first_part (byte ∷ bytes) = if byte == 36 then byte ∷ bytes else directory_part (byte ∷ bytes)

-- all of them
abbrev pub store_parts : List (List ℕ) → List (List ℕ)
store_parts [] = []
store_parts (part ∷ []) = (61 ∷ part) ∷ []
store_parts (part ∷ next ∷ parts) = first_part part ∷ later_parts (next ∷ parts)

-- the rest of a path in the store that belongs to a unit
unfoldable pub unit_path : List ℕ → List ℕ
unit_path unit = join_with_byte 47 (store_parts (slice_split (λ byte. byte == 47) unit))

-- the binfile of a unit: `.cm/bin/` and the unit's part
unfoldable pub bin_path : List ℕ → List ℕ
bin_path unit = 46 ∷ 99 ∷ 109 ∷ 47 ∷ 98 ∷ 105 ∷ 110 ∷ 47 ∷ unit_path unit

-- the record of a unit's tool: `.cm/tool/` and the unit's part
unfoldable pub tool_path : List ℕ → List ℕ
tool_path unit = 46 ∷ 99 ∷ 109 ∷ 47 ∷ 116 ∷ 111 ∷ 111 ∷ 108 ∷ 47 ∷ unit_path unit

-- the interface with a hash: `.cm/int/` and its 64 hex digits
unfoldable pub interface_path : Pid → List ℕ
interface_path hash = 46 ∷ 99 ∷ 109 ∷ 47 ∷ 105 ∷ 110 ∷ 116 ∷ 47 ∷ pid_text hash

-- where each build without a diagnostic leaves its program: `.cm/linked`
unfoldable pub linked_path : List ℕ
linked_path = 46 ∷ 99 ∷ 109 ∷ 47 ∷ 108 ∷ 105 ∷ 110 ∷ 107 ∷ 101 ∷ 100 ∷ []

-- what a unit's part has from its second component on
unfoldable pub later_path : List ℕ → List ℕ
later_path name = join_with_byte 47 (later_parts (slice_split (λ byte. byte == 47) name))

-- a name is its first component, a slash, and the rest
pub record BeginsWith (name part rest : List ℕ) : Type 0 where
  pub split : slice_split (λ byte. byte == 47) name ≡ part ∷ slice_split (λ byte. byte == 47) rest

-- a name has one component
pub record IsOnePart (name : List ℕ) : Type 0 where
  pub split : slice_split (λ byte. byte == 47) name ≡ name ∷ []
