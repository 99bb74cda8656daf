-- The rules of the three tools: a byte for the tool, and what it is given.
use Rattle.std.specs.Prelude.{ℕ, List, [], ◌∷◌}
use Rattle.cm_bytes.specs.Fields.{text_of}

-- a file's text under a value name
unfoldable pub embed_rule : List ℕ → List ℕ
embed_rule value = 0 ∷ text_of value

-- the code of a literate source
unfoldable pub literate_rule : List ℕ
literate_rule = 1 ∷ []

-- a text behind a head
unfoldable pub prelude_rule : List ℕ → List ℕ
prelude_rule head = 2 ∷ text_of head
