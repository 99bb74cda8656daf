-- How a table tells the last entry of each name. Only private functions cite this file.
use Rattle.std.specs.Prelude.{◌≡◌, ℕ, ◌+◌, ◌++◌, ◌&&◌, Bool, true, Option, None, Some, is_some, List, [], ◌∷◌, nat_eq, if◌then◌else◌}
use Rattle.std.specs.List.{All}
use Rattle.std.specs.Option.{unwrap_or}
use Rattle.indexmap.specs.IndexMap.{IndexMap, get}
use Rattle.sml_trees.specs.declared.full_pat.Fixity.{Fixity}
use Rattle.infix_names.specs.Fixities.{Fixities}
use Rattle.infix_names.specs.declared.fixity.Status.{Status}
use lib.Pointwise.{pointwise}

-- whether two names are one
abbrev pub same : List ℕ → List ℕ → Bool
same a b = pointwise nat_eq a b

-- ---- where entries stand

abbrev pub last_from : Option ℕ → ℕ → Fixities → List ℕ → Option ℕ
last_from held at [] name = held
last_from held at (status ∷ fs) name = last_from (if same status.name name then Some at else held) (at + 1) fs name

-- where the last entry of a name stands
unfoldable pub last_of : Fixities → List ℕ → Option ℕ
last_of fs name = last_from None 0 fs name

abbrev pub links_from : Fixities → Fixities → List (Option ℕ)
links_from before [] = []
links_from before (status ∷ fs) = last_of before status.name ∷ links_from (before ++ status ∷ []) fs

-- for each entry where the entry of its name before it stands
unfoldable pub links_of : Fixities → List (Option ℕ)
links_of fs = links_from [] fs

-- ---- tables

abbrev pub Table : Type 0 → Type 0
Table S = IndexMap (List ℕ) (Option ℕ) S

-- where a table has the last entry of a name
abbrev pub place_in : {S : Type 0} → Table S → List ℕ → Option ℕ
place_in table name = unwrap_or (get same table name) None

-- whether a table has something of a name
abbrev pub has : {S : Type 0} → Table S → List ℕ → Bool
has table name = is_some (get same table name)

-- a table tells the last entry of each name
abbrev pub IsPlaced : {S : Type 0} → Table S → Fixities → Type 0
IsPlaced table fs = (name : List ℕ) → place_in table name ≡ last_of fs name

-- a table has something of the name of each entry
abbrev pub HasAll : {S : Type 0} → Table S → Fixities → Type 0
HasAll table fs = All (λ status. has table status.name ≡ true) fs

-- a table has something of the same names
abbrev pub HasTheSame : {S : Type 0} → Table S → Table S → Type 0
HasTheSame old new = (name : List ℕ) → has new name ≡ has old name

-- the place of the last entry of a name is another, where the table had one
abbrev pub Notes : {S : Type 0} → Table S → Table S → List ℕ → Option ℕ → Type 0
Notes old new noted place =
    (name : List ℕ) → get same new name ≡ (if has old noted && same noted name then Some place else get same old name)

-- a name has its last entry at a place, and each other name where it had it
abbrev pub Puts : {S : Type 0} → Table S → Table S → List ℕ → ℕ → Type 0
Puts old new put at = (name : List ℕ) → place_in new name ≡ (if same put name then Some at else place_in old name)

-- two tables tell the same
abbrev pub TellsAlike : {S : Type 0} → Table S → Table S → Type 0
TellsAlike old new = (name : List ℕ) → place_in new name ≡ place_in old name

-- a table with the links of the entries
pub record IsTable {S : Type 0} (table : Table S) (links : List (Option ℕ)) (fs : Fixities) : Type 0 where
  pub placed : IsPlaced table fs
  pub linked : links ≡ links_of fs

-- ---- what an entry says

-- the status that an entry gives
abbrev pub status_of : Option Status → Option Fixity
status_of None = None
status_of (Some status) = status.fixity
