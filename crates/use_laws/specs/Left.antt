-- What is left where uses of tools were made: their records, and how often each tool ran.
use Rattle.std.specs.Prelude.{ℕ, ◌≡◌, List, ◌++◌, map, Some}
use Rattle.cm_base.specs.Definitions.{Definitions}
use Rattle.cm_base.specs.Keeping.{Keeps}
use Rattle.bin_store.specs.GoodStore.{IsGoodStore, StoreIsGood}
use Rattle.bin_store.specs.Paths.{tool_path}
use Rattle.tool_deriving.specs.Deriving.{ToolState, ToolUse}
use Rattle.box_deriving.specs.Boxes.{Origin, World, after_runs, counts_of}

-- where the records of uses stand
abbrev pub record_paths : List ToolUse → List (List ℕ)
record_paths jobs = map (λ job. tool_path job.unit) jobs

-- the tools ran for all of these uses, in their order
abbrev pub RanFor : List ToolUse → List ToolState → List ToolState → Type 0
RanFor runs old new = counts_of new ≡ after_runs runs (counts_of old)

-- .. or for a front of them
pub record RanUpTo (runs : List ToolUse) (old new : List ToolState) : Type 0 where
  pub front : List ToolUse
  pub rest : List ToolUse
  pub all : runs ≡ front ++ rest
  pub ran : RanFor front old new

-- what is left of these runs: of a front of them each tool ran, no file changed but their records, and a good store is one
pub record Leaves (origin : Origin) (runs : List ToolUse) (now : World) : Type 0 where
  pub keeps : Keeps (Some origin.files) now.holds (record_paths runs)
  pub ran : RanUpTo runs origin.tools now.tools
  pub good : (by : Definitions) (known : List (List ℕ)) → IsGoodStore by known origin.files
      → StoreIsGood by known now.holds
