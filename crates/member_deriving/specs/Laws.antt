-- The laws of members' uses of tools.
use Rattle.std.specs.Prelude.{ℕ, ◌≡◌, true, List, ◌++◌, None}
use Rattle.cm_base.specs.Definitions.{Definitions}
use Rattle.cm_base.specs.Files.{Files}
use Rattle.bin_store.specs.GoodStore.{IsGoodStore}
use Rattle.tool_records.specs.Stored.{HasTrueRecord}
use Rattle.tool_deriving.specs.Deriving.{ToolState, ToolUse}
use Rattle.tool_deriving.specs.Toolboxes.{is_built_in, rules_of}
use Rattle.member_deriving.specs.Classes.{rule_named}
use Rattle.member_deriving.specs.Sources.{source_by, texts_by_rules, texts_over_stores}
use Rattle.member_deriving.specs.Uses.{Work, after_uses, runs_of}

-- the classes of sources and of descriptions are no tool's
abbrev pub BuiltInHaveNoTool : Type 0
BuiltInHaveNoTool = (tools : List ToolState) (class : List ℕ) → is_built_in class ≡ true
    → rule_named (rules_of (λ tool. tool.class) (λ tool. tool.rule) tools) class ≡ None

-- the records of all units are true
abbrev pub HasTrueRecords : Files → Type 0
HasTrueRecords files = (unit : List ℕ) → HasTrueRecord files unit

-- where they are, sources come as the rules say; and they stay so
pub record GivesByRules (job : ToolUse) (work : Work) : Type 0 where
  pub same : source_by texts_over_stores job work ≡ source_by texts_by_rules job work
  pub stays : HasTrueRecords (source_by texts_by_rules job work).work.files

abbrev pub SourcesOverTrueRecords : Type 0
SourcesOverTrueRecords = (job : ToolUse) (work : Work) → HasTrueRecords work.files → GivesByRules job work

-- uses behind uses
pub record InTurn (files : Files) (first more : List ToolUse) : Type 0 where
  pub leave : after_uses files (first ++ more) ≡ after_uses (after_uses files first) more
  pub run : runs_of files (first ++ more) ≡ runs_of files first ++ runs_of (after_uses files first) more

abbrev pub UsesInTurn : Type 0
UsesInTurn = (files : Files) (first more : List ToolUse) → InTurn files first more

-- a good store stays good through uses
abbrev pub UsesKeepStoresGood : Type 0
UsesKeepStoresGood = (by : Definitions) (texts : List (List ℕ)) (files : Files) (jobs : List ToolUse)
    → IsGoodStore by texts files → IsGoodStore by texts (after_uses files jobs)
