-- The lines of a literate source, one by one, and the module of a unit in parts.
use Rattle.std.specs.Prelude.{ℕ, ◌≡◌, ◌==◌, if◌then◌else◌, List, [], ◌∷◌}
use Rattle.std.specs.List.{slice_split}
use Rattle.cm_base.specs.ByteClasses.{is_identifier_byte}
use Rattle.cm_base.specs.Derived.{code_lines, module_of}

-- the code of a literate source
unfoldable pub code_text : List ℕ → List ℕ
code_text input = code_lines input

-- the name of a unit's module
unfoldable pub module_name : List ℕ → List ℕ
module_name unit = module_of unit

-- a text is its first line, a line feed, and the rest
pub record BeginsWithLine (text line rest : List ℕ) : Type 0 where
  pub split : slice_split (λ byte. byte == 10) text ≡ line ∷ slice_split (λ byte. byte == 10) rest

-- a text has one line
pub record IsOneLine (text : List ℕ) : Type 0 where
  pub split : slice_split (λ byte. byte == 10) text ≡ text ∷ []

-- a byte of a module's name: `_` for each that no identifier has
abbrev pub name_byte : ℕ → ℕ
name_byte byte = if is_identifier_byte byte then byte else 95
