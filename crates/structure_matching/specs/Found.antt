-- The components of a signature with what is found under their names. Only private functions cite this file.
use Rattle.std.specs.Prelude.{◌≡◌, ℕ, List, [], ◌∷◌, map, slice_get, Some}
use Rattle.semantic_objects.specs.Tables.{Table, entry}
use Rattle.structure_matching.specs.declared.parts.Component.{Component}

-- the rows of which components are made
abbrev pub specified_rows : List Component → Table ℕ
specified_rows components = map (λ (c : Component). (c.name, c.specified)) components

-- what a table has under the name of each
abbrev pub AreFound : Table ℕ → List Component → Type 0
AreFound found [] = Unit {0}
AreFound found (c ∷ cs) = (c.found ≡ entry c.name found) × AreFound found cs

-- the component of the row at a place, by its name and its place in the graph
pub record IsComponentAt (table : Table ℕ) (names : List (List ℕ)) (places : List ℕ) (at : ℕ) (c : Component)
    : Type 0 where
  pub name : slice_get names at ≡ Some c.name
  pub specified : slice_get places at ≡ Some c.specified
  pub found : c.found ≡ entry c.name table
