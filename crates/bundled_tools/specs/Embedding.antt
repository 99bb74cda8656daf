-- An embedded text in parts.
use Rattle.std.specs.Prelude.{ℕ, List, ◌++◌, codes, flat_map}
use Rattle.cm_base.specs.Derived.{embedded, escaped}
use Rattle.bundled_tools.specs.Lines.{module_name}

-- what stands before the string
unfoldable pub head_text : List ℕ → List ℕ → List ℕ
head_text value unit =
    codes "structure " ++ (module_name unit ++ (codes " = struct val " ++ (value ++ codes " = \"")))

-- the string
unfoldable pub string_text : List ℕ → List ℕ
string_text input = flat_map escaped input

-- all of it
unfoldable pub embedded_text : List ℕ → List ℕ → List ℕ → List ℕ
embedded_text value unit input = embedded value unit input
