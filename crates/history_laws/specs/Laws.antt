-- The theorem over lists of edits and calls where members may be of tools' classes: each command means what it means from
-- nothing, and what it leaves is good for the next.
use Rattle.std.specs.Prelude.{ℕ, ◌≡◌, List, ◌∷◌, ◌++◌, Some, Ok}
use Rattle.cm_base.specs.Definitions.{Definitions}
use Rattle.cm_base.specs.Derived.{ToolRules}
use Rattle.cm_base.specs.Files.{Files, project_part}
use Rattle.cm_bytes.specs.Hashes.{HashesApart}
use Rattle.bin_store.specs.GoodStore.{IsGoodStore}
use Rattle.tool_deriving.specs.Deriving.{ToolState}
use Rattle.command_words.specs.Words.{call_of, command_of}
use Rattle.command_words.specs.declared.call.Call.TheVariants.{Single}
use Rattle.command_words.specs.declared.command.Command.{Command}
use Rattle.command_parts.specs.Headline.{Ends, Run}
use Rattle.command_parts.specs.declared.status.Status.{Status}
use Rattle.cm_top.specs.Headline.{Ran}
use Rattle.cm_top.specs.Meaning.{meaning_of}
use Rattle.cm_top.specs.Performing.{rules_among}
use Rattle.cm_top.specs.Sessions.{meaning_of_call}
use Rattle.cm_base.specs.Calls.{IsSmallSkeleton}
use Rattle.cm_base.specs.declared.record.Skeleton.{Skeleton}
use Rattle.history_laws.specs.Calls.{Event, IsLawfulEvent, effect_of_event, meant_with}
use Rattle.history_laws.specs.Calls.Event.{call}
use Rattle.history_laws.specs.FromNothing.{HasProjectAlone, MeansTheSame, build_in}
use Rattle.history_laws.specs.Histories.{Effect, IsHistory, IsLawful, Step, effect_of_step, folder_after, interfaces_in}
use Rattle.history_laws.specs.Histories.Step.{command}

-- ---- one command

-- in a folder words of a command mean what they mean wherever the same project stands alone
abbrev pub MeanTheSameAlone : Definitions → ToolRules → List (List ℕ) → Files → Type 0
MeanTheSameAlone by rules words files = (meant : Command) (clean : Files) → command_of words ≡ Some meant
    → HasProjectAlone files clean
    → MeansTheSame by rules files clean meant (build_in by rules clean meant) (meaning_of by rules words files)
    (meaning_of by rules words clean)

-- .. and so do the words of a call that is a command by itself. (A session is a list of edits and commands itself.)
abbrev pub CallMeansTheSameAlone : Definitions → ToolRules → List (List ℕ) → Files → Type 0
CallMeansTheSameAlone by rules words files = (meant : Command) (clean : Files) → call_of words ≡ Some (Single meant)
    → HasProjectAlone files clean
    → MeansTheSame by rules files clean meant (build_in by rules clean meant) (meaning_of_call by rules words files)
    (meaning_of_call by rules words clean)

-- .. in every folder, whatever stands in its store
abbrev pub CommandsKnowNoStore : Type 0
CommandsKnowNoStore = (by : Definitions) (rules : ToolRules) (words : List (List ℕ)) (files : Files)
    → MeanTheSameAlone by rules words files

-- a project stands alone in the part of a folder outside the store
abbrev pub ProjectsStandAlone : Type 0
ProjectsStandAlone = (files : Files) → HasProjectAlone files (project_part files)

-- The skeletons that a compiler's definitions give are small, as its calls promise of each that they give: the numbers
-- of a place have four bytes, as they have in a binfile.
abbrev pub GivesSmallSkeletons : Definitions → Type 0
GivesSmallSkeletons by =
    (unit source : List ℕ) (skeleton : Skeleton) → by.skel unit source ≡ Ok skeleton → IsSmallSkeleton skeleton

-- the files that a command means are a good store where the files at entry are one, and no two differing texts of the
-- known interfaces and its own share a hash
abbrev pub CommandsKeepGood : Type 0
CommandsKeepGood = (by : Definitions) (rules : ToolRules) (words : List (List ℕ)) (files : Files)
    (known : List (List ℕ)) → GivesSmallSkeletons by
    → HashesApart (known ++ (meaning_of by rules words files).effect.interfaces) → IsGoodStore by known files
    → IsGoodStore by (known ++ (meaning_of by rules words files).effect.interfaces)
    (meaning_of by rules words files).effect.files

-- ---- any list of steps

-- the store is good after some steps, for all their interfaces
abbrev pub IsGoodAfter : {S : Type 0} → Definitions → Effect S → Files → List S → Type 0
IsGoodAfter by effect start steps = IsGoodStore by (interfaces_in effect start steps) (folder_after effect start steps)

-- ---- lists of edits and commands

-- what holds where words are done in a folder with tools of these classes and rules, while some interfaces are known
pub record IsDoneWell (by : Definitions) (known : List (List ℕ)) (files : Files) (rules : ToolRules)
    (words : List (List ℕ)) : Type 0 where
  -- The store is good, and the interfaces are apart: all that the contract of a call asks.
  pub good : IsGoodStore by known files
  pub apart : HashesApart (known ++ (meaning_of by rules words files).effect.interfaces)
  -- And the words mean what they mean from nothing.
  pub same : MeanTheSameAlone by rules words files

-- Each command is done well after the steps before it, and the store is good at last.
pub record HistoryHolds (by : Definitions) (start : Files) (steps : List Step) : Type 0 where
  pub commands : (before later : List Step) (rules : ToolRules) (words : List (List ℕ))
      → steps ≡ before ++ command rules words ∷ later
      → IsDoneWell by (interfaces_in (effect_of_step by) start before) (folder_after (effect_of_step by) start before)
      rules words
  pub good : IsGoodAfter by (effect_of_step by) start steps

-- for every list of edits of the project and commands from a folder without a store, in which no two differing
-- interfaces share a hash
abbrev pub EveryHistory : Type 0
EveryHistory = (by : Definitions) (start : Files) (steps : List Step) → GivesSmallSkeletons by
    → IsHistory (effect_of_step by) IsLawful start steps → HistoryHolds by start steps

-- ---- lists of edits and calls

-- what a call finds and does in a folder
pub record IsCalledWell (by : Definitions) (known : List (List ℕ)) (files : Files) (tools : List ToolState)
    (words : List (List ℕ)) : Type 0 where
  -- The store is good, and the interfaces are apart: all that the contract of a call asks.
  pub good : IsGoodStore by known files
  pub apart : HashesApart (known ++ (meant_with by tools words files).effect.interfaces)
  -- And a command by itself means what it means from nothing.
  pub same : CallMeansTheSameAlone by (rules_among tools) words files

-- the folder that a call finds, and the interfaces that are known then
abbrev pub found_by : Definitions → Files → List Event → Files
found_by by start before = folder_after (effect_of_event by) start before

abbrev pub known_to : Definitions → Files → List Event → List (List ℕ)
known_to by start before = interfaces_in (effect_of_event by) start before

-- what holds of a call after some events
pub record EndsWell (by : Definitions) (start : Files) (before : List Event) (words : List (List ℕ))
    (tools : List ToolState) (end : Status) (run : Run) (after : List ToolState) : Type 0 where
  -- It ends as its words mean: it prints that, leaves those files, and asks for that and nothing else; after a fault or
  -- want of memory a front of it was printed and asked for.
  pub ends : Ends end (meant_with by tools words (found_by by start before)).effect run
  -- Each tool ran for the uses of which no whole record stood, and for no other; after a fault for a front of them.
  pub ran : Ran end (meant_with by tools words (found_by by start before)).runs tools after
  -- And they are done well.
  pub done : IsCalledWell by (known_to by start before) (found_by by start before) tools words

-- Each call ends well after the events before it, and the store is good at last, whatever the calls answered.
pub record CallsHold (by : Definitions) (start : Files) (events : List Event) : Type 0 where
  pub calls : (before later : List Event) (words : List (List ℕ)) (tools : List ToolState) (end : Status) (run : Run)
      (after : List ToolState) (left : Files) → events ≡ before ++ call words tools end run after left ∷ later
      → EndsWell by start before words tools end run after
  pub good : IsGoodAfter by (effect_of_event by) start events

-- for every list of edits of the project and calls from a folder without a store, in which no two differing interfaces
-- share a hash, whatever tools the calls are given
abbrev pub EveryListOfCalls : Type 0
EveryListOfCalls = (by : Definitions) (start : Files) (events : List Event)
    → IsHistory (effect_of_event by) (IsLawfulEvent by) start events → CallsHold by start events
