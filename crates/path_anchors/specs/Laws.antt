-- The laws of anchors and names, over the anchors that any pathconfig binds: a file has one name, and a name lies
-- where it says.
use Rattle.std.specs.Prelude.{ℕ, ◌≡◌, ◌⊎◌, false, List, [], ◌++◌, Some, Ok, All}
use Rattle.path_anchors.specs.Names.{Bindings, IsName, parts_of, name_of, is_stay, is_up, passes_limit, bound_to, is_claimed, resolved, folder_path_of}
use Rattle.path_anchors.specs.Pathconfig.{AreBindings, is_in_store}

-- two names of one file are one: what two written paths, wherever they stand, mean by one path of the folder
-- has one name
abbrev pub FileHasOneName : Type 0
FileHasOneName = (anchors : Bindings) (a b : List ℕ) → AreBindings anchors → IsName anchors a → IsName anchors b
    → folder_path_of anchors a ≡ folder_path_of anchors b → a ≡ b

-- a name, written at the top within the limit of a path, means itself
abbrev pub NameMeansItself : Type 0
NameMeansItself = (anchors : Bindings) (name : List ℕ) → AreBindings anchors → IsName anchors name
    → passes_limit name ≡ false → resolved anchors [] name ≡ Ok name

-- a component that leads one down: it isn't empty, `.` or `..`
pub record LeadsDown (part : List ℕ) : Type 0 where
  pub stay : is_stay part ≡ false
  pub up : is_up part ≡ false

-- a path in the folder, and outside the store
pub record IsProjectPath (path : List ℕ) : Type 0 where
  pub down : All LeadsDown (parts_of path)
  pub project : is_in_store (parts_of path) ≡ false

abbrev pub NameLiesInProject : Type 0
NameLiesInProject = (anchors : Bindings) (name : List ℕ) → AreBindings anchors → IsName anchors name
    → IsProjectPath (folder_path_of anchors name)

-- a plain name is its path, and lies in no anchor's directory
pub record IsPlain (anchors : Bindings) (name : List ℕ) : Type 0 where
  pub path : folder_path_of anchors name ≡ name
  pub outside : is_claimed anchors name ≡ false

-- any other is `$a` and components, and lies in the directory of the anchor `a`
pub record IsAnchored (anchors : Bindings) (name : List ℕ) : Type 0 where
  pub anchor : List ℕ
  pub directory : List ℕ
  pub parts : List (List ℕ)
  pub spelled : name ≡ name_of (Some anchor) parts
  pub bound : bound_to anchors anchor ≡ Some directory
  pub path : parts_of (folder_path_of anchors name) ≡ parts_of directory ++ parts

abbrev pub NameLiesWhereItSays : Type 0
NameLiesWhereItSays = (anchors : Bindings) (name : List ℕ) → AreBindings anchors → IsName anchors name
    → IsPlain anchors name ⊎ IsAnchored anchors name
