-- The tables beside the list of the anchors: what stands in them, so that a path's place among the anchors'
-- directories is found by its fronts.
use Rattle.std.specs.Prelude.{ℕ, ◌≡◌, ◌==◌, ◌&&◌, ◌||◌, Bool, true, nat_eq, List, length, slice_index, take}
use Rattle.std.specs.List.{list_any}
use Rattle.path_anchors.specs.Names.{Bindings, parts_of, begins_with}
use lib.Pointwise.{pointwise}

-- whether a path is in a table
abbrev pub holds : List (List ℕ) → List ℕ → Bool
holds table path = list_any (pointwise nat_eq path) table

-- each path in a table has one of these lengths
abbrev pub HasLengths : List (List ℕ) → List ℕ → Type 0
HasLengths table lengths = (path : List ℕ) → holds table path ≡ true → list_any (nat_eq (length path)) lengths ≡ true

-- a table has one path more
abbrev pub Adds : List (List ℕ) → List (List ℕ) → List ℕ → Type 0
Adds old new path = (found : List ℕ) → holds new found ≡ (holds old found || pointwise nat_eq found path)

-- whether a slash stands at a place of a path
abbrev pub slash_at : List ℕ → ℕ → Bool
slash_at path at = slice_index path at == 47

-- .. or what stands before a place of one, if a slash stands there
abbrev pub AddsBefore : List (List ℕ) → List (List ℕ) → List ℕ → ℕ → Type 0
AddsBefore old new path at =
    (found : List ℕ) → holds new found ≡ (holds old found || (slash_at path at && pointwise nat_eq found (take at path)))

-- .. or that path and those whose components it begins with
abbrev pub AddsFronts : List (List ℕ) → List (List ℕ) → List ℕ → Type 0
AddsFronts old new path =
    (found : List ℕ) → holds new found ≡ (holds old found || begins_with (parts_of path) (parts_of found))

-- one table has the directories of the anchors, the other one all paths that lead to one
pub record AreTables (anchors : Bindings) (directories fronts : List (List ℕ)) : Type 0 where
  pub finds : (path : List ℕ) → holds directories path ≡ list_any (λ bound. pointwise nat_eq path bound.1) anchors
  pub leads : (path : List ℕ) → holds fronts path ≡ list_any (λ bound. begins_with (parts_of bound.1) (parts_of path)) anchors
