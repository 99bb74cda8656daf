-- Shorter ways from variables to what they come to. Only private functions cite this file.
use Rattle.std.specs.Prelude.{◌≡◌, ℕ, ◌<◌, ◌≤◌, List, slice_get, Option, Some, Bool}
use Rattle.semantic_objects.specs.declared.name.TyId.{TyId}
use Rattle.type_nodes.specs.declared.way.Way.{Way}
use Rattle.type_nodes.specs.Tables.{Table, LinkedTo}
use Rattle.type_nodes.specs.Keeping.{IsTable}
use Rattle.type_nodes.specs.declared.stamp.Stamp.{Stamp}
use Rattle.type_nodes.specs.Stamps.{AreStamps}

-- a count of undoings with one time more; the last count stays
abbrev pub IsNextEra : ℕ → ℕ → Type 0
IsNextEra era next = (era ≤ next) × (next < 18446744073709551615 → era < next)

-- a way leads to what a variable comes to, as long as nothing was undone since it was found
pub record IsWay (t : Table) (era v : ℕ) (w : Way) : Type 0 where
  pub past : w.era ≤ era
  pub leads : w.era ≡ era → era < 18446744073709551615 → LinkedTo t v w.to

abbrev pub AreWays : Table → List (Option Way) → ℕ → Type 0
AreWays t ways era = (v : ℕ) (w : Way) → slice_get ways v ≡ Some (Some w) → IsWay t era v w

-- a table whose links and marks are kept beside its trail, with shorter ways and the sizes that were counted
pub record IsShortened (t : Table) (links : List (Option TyId)) (marks : List Bool) (all : List (Option Way))
    (sizes : List (Option Stamp)) (era cuts : ℕ) : Type 0 where
  pub table : IsTable t links marks
  pub ways : AreWays t all era
  pub stamps : AreStamps t sizes cuts
