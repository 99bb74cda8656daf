-- The laws of what loading reads. A folder holds a project's files and, below `.cm/`, its store; loading reads of the
-- first alone, so that the anchors and the project of a folder, or its first refusal, know no store.
use Rattle.std.specs.Prelude.{ℕ, ◌≡◌, Bool, false, List, Ok}
use Rattle.std.specs.FinMap.{get}
use Rattle.cm_base.specs.Files.{Files, is_stored, project_part}
use Rattle.cm_base.specs.declared.record.Def.{Def}
use Rattle.cm_description.specs.declared.description.MemberEntry.{MemberEntry}
use Rattle.path_anchors.specs.Names.{Bindings, IsName, folder_path_of}
use Rattle.path_anchors.specs.Pathconfig.{AreBindings}
use Rattle.project_loading.specs.Projects.{anchors_of, found_of, frozen, project_of, root_name}
use Rattle.project_loading.specs.declared.found.Found.{Found}

-- ---- the names that loading goes by

-- the anchors of a folder are such as a pathconfig binds
abbrev pub AnchorsAreBindings : Type 0
AnchorsAreBindings = (files : Files) (anchors : Bindings) → anchors_of files ≡ Ok anchors → AreBindings anchors

-- .. and by them the names of ROOT and of members are names of files
pub record GivesNames (anchors : Bindings) : Type 0 where
  pub root : (written name : List ℕ) → root_name anchors written ≡ Ok name → IsName anchors name
  pub member : (holder : List ℕ) (member : MemberEntry) (found : Found) → found_of anchors holder member ≡ Ok found
      → IsName anchors found.name

abbrev pub LoadingGoesByNames : Type 0
LoadingGoesByNames = (anchors : Bindings) → GivesNames anchors

-- the file of a name, and the frozen one beside it, are none of the store
pub record LiesOutsideTheStore (anchors : Bindings) (name : List ℕ) : Type 0 where
  pub file : is_stored (folder_path_of anchors name) ≡ false
  pub beside : is_stored (frozen (folder_path_of anchors name)) ≡ false

abbrev pub NamesLieOutsideTheStore : Type 0
NamesLieOutsideTheStore = (anchors : Bindings) (name : List ℕ) → AreBindings anchors → IsName anchors name
    → LiesOutsideTheStore anchors name

-- ---- what is loaded

-- two folders with the same files outside the store
abbrev pub SameProjectFiles : Files → Files → Type 0
SameProjectFiles a b = (path : List ℕ) → is_stored path ≡ false → get a path ≡ get b path

-- two folders of which the same is loaded: the anchors, and under whatever definitions, from whatever ROOT, the project
-- or its first refusal
pub record LoadsAlike (a b : Files) : Type 0 where
  pub anchors : anchors_of a ≡ anchors_of b
  pub project : (defs : List Def) (root : List ℕ) (freezing : Bool)
      → project_of a defs root freezing ≡ project_of b defs root freezing

-- loading reads no file of the store: what differs there alone is loaded alike
abbrev pub LoadingReadsTheProject : Type 0
LoadingReadsTheProject = (a b : Files) → SameProjectFiles a b → LoadsAlike a b

-- so the store may as well not be there
abbrev pub LoadingKnowsNoStore : Type 0
LoadingKnowsNoStore = (files : Files) → LoadsAlike files (project_part files)
