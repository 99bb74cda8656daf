-- What a compiler keeps between units: it says what would be made anew, so that no answer hangs on it.
use Rattle.std.specs.Prelude.{◌≡◌, ℕ, List, Some, Ok, nat_eq}
use Rattle.indexmap.specs.IndexMap.{get}
use Rattle.sml_trees.specs.declared.unit.BareUnit.{BareUnit}
use Rattle.sml_modules.specs.Items.{Item}
use Rattle.import_reading.specs.declared.restored.RestoredInterfaces.{RestoredInterfaces}
use Rattle.import_reading.specs.Restored.{AreRestored}
use Rattle.unit_compiling.specs.declared.waiting.ReadSource.{ReadSource}
use Rattle.unit_compiling.specs.declared.waiting.ReadSources.{ReadSources}
use Rattle.unit_compiling.specs.Compiled.{bare_of_source}
use lib.Pointwise.{pointwise}

-- each source has this bare unit
abbrev pub AreRead : ReadSources → Type 0
AreRead sources = (unit : List ℕ) (read : ReadSource) → get (pointwise nat_eq) sources.by_unit unit ≡ Some read
    → bare_of_source unit read.source ≡ Ok read.bare

-- the bare unit is that of a source that was read, and the source is this one
pub record IsBareOf (read : ReadSource) (text : List ℕ) (made : BareUnit) : Type 0 where
  pub source : read.source ≡ text
  pub bare : read.bare ≡ made

-- what is kept: the interfaces that stand in the graph, and the sources that were read
pub record IsKept (items : List Item) (interfaces : RestoredInterfaces) (waiting : ReadSources) : Type 0 where
  pub restored : AreRestored items interfaces
  pub sources : AreRead waiting
