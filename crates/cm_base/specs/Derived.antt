-- The text that a tool makes of a member: it is determined by the tool's rule, the unit's name and the input.
-- A rule is a byte and what follows it: 0 and the spelling of a value name, 1 alone, or 2 and the spelling of a head.
use Rattle.std.specs.Prelude.{ℕ, ◌+◌, ◌/◌, ◌%◌, ◌==◌, ◌&&◌, ◌||◌, if◌then◌else◌, Option, None, Some, List, [], ◌∷◌, ◌++◌, take, drop, length, map, flat_map, codes, nat_le}
use Rattle.std.specs.Int.{w32, from_be_bytes}
use Rattle.std.specs.List.{before_first, after_last, slice_split, join_with_byte}
use Rattle.std.specs.Option.{option_map_or}
use Rattle.cm_base.specs.ByteClasses.{between, is_letter, is_identifier_byte, capital}

-- the classes and rules of the tools of a box, in its order: what a project depends on beside its files
abbrev pub ToolRules : Type 0
ToolRules = List (List ℕ × List ℕ)

-- a name that begins with a capital: its first letter made one, or `X` before it where it begins with none
abbrev pub with_capital : List ℕ → List ℕ
with_capital [] = 88 ∷ []
with_capital (byte ∷ bytes) = if is_letter byte then capital byte ∷ bytes else 88 ∷ byte ∷ bytes

-- the module of a unit: its last component up to the first dot, with `_` for each byte that no identifier has
abbrev pub module_of : List ℕ → List ℕ
module_of unit =
    with_capital (map (λ byte. if is_identifier_byte byte then byte else 95)
    (before_first (λ byte. byte == 46) (after_last (λ byte. byte == 47) unit)))

-- a byte in a string constant: `"` and `\` behind a backslash, and three digits for what can't be printed
abbrev pub escaped : ℕ → List ℕ
escaped byte =
    if (byte == 34) || (byte == 92) then 92 ∷ byte ∷ []
    else (if between 32 126 byte then byte ∷ []
    else 92 ∷ (48 + byte / 100) ∷ (48 + byte / 10 % 10) ∷ (48 + byte % 10) ∷ [])

-- a structure with one string, the input, under the value name
abbrev pub embedded : List ℕ → List ℕ → List ℕ → List ℕ
embedded value unit input =
    codes "structure " ++ (module_of unit ++ (codes " = struct val " ++ (value ++ (codes " = \""
    ++ (flat_map escaped input ++ (codes "\" end" ++ 10 ∷ []))))))

-- a line of a literate source: code behind `>`, which becomes a space; any other line is empty
abbrev pub code_line : List ℕ → List ℕ
code_line [] = []
code_line (byte ∷ bytes) = if byte == 62 then 32 ∷ bytes else []

abbrev pub code_lines : List ℕ → List ℕ
code_lines input = join_with_byte 10 (map code_line (slice_split (λ byte. byte == 10) input))

-- a text behind its length in four bytes, where these bytes are one and no more
abbrev pub only_text : List ℕ → Option (List ℕ)
only_text bytes =
    if nat_le 4 (length bytes) && (from_be_bytes w32 (take 4 bytes) == length (drop 4 bytes))
    then Some (drop 4 bytes) else None

-- the text that a rule derives; a rule of no form gives the empty text
unfoldable pub derived_text : List ℕ → List ℕ → List ℕ → List ℕ
derived_text [] unit input = []
derived_text (kind ∷ rule) unit input =
    if kind == 0 then option_map_or (λ value. embedded value unit input) (only_text rule) []
    else (if (kind == 1) && (length rule == 0) then code_lines input
    else (if kind == 2 then option_map_or (λ head. head ++ input) (only_text rule) [] else []))
