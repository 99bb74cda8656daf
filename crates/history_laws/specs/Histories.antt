-- Histories of a folder: what is done to it, one step after the other.
use Rattle.std.specs.Prelude.{ℕ, ◌≡◌, false, List, [], ◌∷◌, ◌++◌, Option, Some, None}
use Rattle.std.specs.FinMap.{insert, remove}
use Rattle.cm_base.specs.Definitions.{Definitions}
use Rattle.cm_base.specs.Files.{Files, HasNoStore, is_stored}
use Rattle.cm_bytes.specs.Hashes.{HashesApart}
use Rattle.cm_base.specs.Derived.{ToolRules}
use Rattle.cm_top.specs.Meaning.{meaning_of}

-- ---- of any kind of step

-- what a step does to a folder: the files that it leaves, and the interfaces of the units that it builds
pub record Effect (S : Type 0) : Type 0 where
  pub leaves : Files → S → Files
  pub interfaces : Files → S → List (List ℕ)

-- the folder after some steps
abbrev pub folder_after : {S : Type 0} → Effect S → Files → List S → Files
folder_after effect files [] = files
folder_after effect files (step ∷ steps) = folder_after effect (effect.leaves files step) steps

-- all interfaces of some steps
abbrev pub interfaces_in : {S : Type 0} → Effect S → Files → List S → List (List ℕ)
interfaces_in effect files [] = []
interfaces_in effect files (step ∷ steps) =
    effect.interfaces files step ++ interfaces_in effect (effect.leaves files step) steps

-- each step is so in the folder that it finds
abbrev pub EachIs : {S : Type 0} → Effect S → (Files → S → Type 0) → Files → List S → Type 0
EachIs effect P files [] = Unit {0}
EachIs effect P files (step ∷ steps) = P files step × EachIs effect P (effect.leaves files step) steps

-- A history begins where no store is, each of its steps is so, and no two differing interfaces of all the units that it
-- builds share a hash.
pub record IsHistory {S : Type 0} (effect : Effect S) (P : Files → S → Type 0) (start : Files) (steps : List S) : Type 0
  where
    pub begins : HasNoStore start
    pub each : EachIs effect P start steps
    pub apart : HashesApart (interfaces_in effect start steps)

-- ---- changes of the project, and commands that do what they mean

-- a file gets new bytes or is taken away, or a command is done with tools of these classes and rules
pub data Step : Type 0 where
  edit : (path : List ℕ) → (content : Option (List ℕ)) → Step
  command : (rules : ToolRules) → (words : List (List ℕ)) → Step

abbrev pub edited : Files → List ℕ → Option (List ℕ) → Files
edited files path None = remove files path
edited files path (Some bytes) = insert files path bytes

abbrev pub step_leaves : Definitions → Files → Step → Files
step_leaves by files (edit path content) = edited files path content
step_leaves by files (command rules words) = (meaning_of by rules words files).effect.files

abbrev pub step_interfaces : Definitions → Files → Step → List (List ℕ)
step_interfaces by files (edit path content) = []
step_interfaces by files (command rules words) = (meaning_of by rules words files).effect.interfaces

abbrev pub effect_of_step : Definitions → Effect Step
effect_of_step by = record { leaves = step_leaves by; interfaces = step_interfaces by }

-- a change is one of the project: nobody but a command writes the store
abbrev pub IsLawful : Files → Step → Type 0
IsLawful files (edit path content) = is_stored path ≡ false
IsLawful files (command rules words) = Unit {0}
