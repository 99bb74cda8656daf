-- How a table tells the last binding of each name. Only private functions cite this file.
use Rattle.std.specs.Prelude.{◌≡◌, ℕ, ◌+◌, ◌++◌, ◌&&◌, Bool, Option, None, Some, is_some, List, [], ◌∷◌, ltb, slice_get, if◌then◌else◌}
use Rattle.std.specs.Option.{unwrap_or, option_map}
use Rattle.indexmap.specs.IndexMap.{IndexMap, get}
use Rattle.name_trails.specs.Trails.{Rows, same}

-- ---- where bindings stand

abbrev pub place_after : {A : Type 0} → Option ℕ → ℕ → Rows A → List ℕ → Option ℕ
place_after held at [] name = held
place_after held at (row ∷ rows) name = place_after (if same row.0 name then Some at else held) (at + 1) rows name

-- where the last binding of a name stands
unfoldable pub last_place : {A : Type 0} → Rows A → List ℕ → Option ℕ
last_place rows name = place_after None 0 rows name

abbrev pub links_after : {A : Type 0} → Rows A → Rows A → List (Option ℕ)
links_after before [] = []
links_after before (row ∷ rows) = last_place before row.0 ∷ links_after (before ++ row ∷ []) rows

-- for each binding where the one of its name before it stands
unfoldable pub links_of : {A : Type 0} → Rows A → List (Option ℕ)
links_of rows = links_after [] rows

-- the entry at a place, where those before another place don't count
abbrev pub entry_at : {A : Type 0} → ℕ → Rows A → ℕ → Option A
entry_at start rows place = if ltb place start then None else option_map (λ row. row.1) (slice_get rows place)

-- ---- tables

abbrev pub PlaceTable : Type 0 → Type 0
PlaceTable S = IndexMap (List ℕ) (Option ℕ) S

-- where a table has the last binding of a name
abbrev pub place_in : {S : Type 0} → PlaceTable S → List ℕ → Option ℕ
place_in table name = unwrap_or (get same table name) None

-- whether a table knows a name
abbrev pub knows : {S : Type 0} → PlaceTable S → List ℕ → Bool
knows table name = is_some (get same table name)

-- a table tells the last binding of each name
abbrev pub IsPlaced : {S A : Type 0} → PlaceTable S → Rows A → Type 0
IsPlaced table rows = (name : List ℕ) → place_in table name ≡ last_place rows name

-- the place of the last binding of a name is another, where the table knew the name
abbrev pub Notes : {S : Type 0} → PlaceTable S → PlaceTable S → List ℕ → Option ℕ → Type 0
Notes old new noted place =
    (name : List ℕ) → get same new name ≡ (if knows old noted && same noted name then Some place else get same old name)

-- a name has its last binding at a place, and each other name where it had it
abbrev pub Puts : {S : Type 0} → PlaceTable S → PlaceTable S → List ℕ → ℕ → Type 0
Puts old new put at = (name : List ℕ) → place_in new name ≡ (if same put name then Some at else place_in old name)

-- two tables tell the same
abbrev pub TellsAlike : {S : Type 0} → PlaceTable S → PlaceTable S → Type 0
TellsAlike old new = (name : List ℕ) → place_in new name ≡ place_in old name

-- a table with the links of the bindings
pub record IsTable {S A : Type 0} (table : PlaceTable S) (links : List (Option ℕ)) (rows : Rows A) : Type 0 where
  pub placed : IsPlaced table rows
  pub linked : links ≡ links_of rows
