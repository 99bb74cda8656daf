-- What an export that may be there adds to those that are shown.
use Rattle.std.specs.Prelude.{◌≡◌, List, Option, Some, None}
use Rattle.indexmap.specs.IndexSet.{IndexSet}
use Rattle.cm_description.specs.declared.loaded.Export.{Export}
use Rattle.visibility.specs.Tables.{ShowsOnce}
use Rattle.visibility.specs.declared.entries.Shown.{Shown}

-- an export is added, if there is one, unless a set has it already
abbrev pub ShowsAll : {S : Type 0} → IndexSet Shown S → IndexSet Shown S → List Export → List Export → Option Export
    → Type 0
ShowsAll old new before now None = (new ≡ old) × (now ≡ before)
ShowsAll old new before now (Some export) = ShowsOnce old new before now export
