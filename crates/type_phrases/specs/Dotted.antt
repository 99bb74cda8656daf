-- The text of a long name. Only private functions cite this file.
use Rattle.std.specs.Prelude.{ℕ, List, [], ◌∷◌, ◌++◌}

-- the parts behind the first one, each after a dot
abbrev pub dotted_rest : List (List ℕ) → List ℕ
dotted_rest [] = []
dotted_rest (part ∷ parts) = 46 ∷ (part ++ dotted_rest parts)
