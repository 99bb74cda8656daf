-- What a group exports, as relations: a set of names with their units, or the first refusal.
use Rattle.std.specs.Prelude.{◌≡◌, ◌⊎◌, ◌↔◌, ℕ, false, List, [], ◌∷◌, ◌++◌, None, Some, Ok, Err, Contains, slice_get}
use Rattle.std.specs.Ordering.{is_gt}
use Rattle.cm_base.specs.declared.diag.Diag.{Diag}
use Rattle.cm_base.specs.declared.diag.Place.{Place}
use Rattle.cm_base.specs.declared.record.Def.{Def}
use Rattle.cm_base.specs.declared.record.ModName.{ModName}
use Rattle.cm_base.specs.declared.record.Skeleton.{Skeleton}
use Rattle.cm_base.specs.declared.record.Spot.{Spot}
use Rattle.cm_description.specs.declared.description.Entry.{Entry}
use Rattle.cm_description.specs.declared.loaded.Export.{Export}
use Rattle.cm_description.specs.declared.loaded.Group.{Group}
use Rattle.cm_description.specs.declared.loaded.Project.{Project}
use Rattle.visibility.specs.Choosing.{chosen_items}
use Rattle.visibility.specs.Exports.{clash_diag, defined_spots, name_cmp, names_there, subgroups}
use Rattle.visibility.specs.Projects.{file_place, members, name_refused, sources}
use Rattle.visibility.specs.Providers.{IsDefiner}
use Rattle.visibility_laws.specs.Behind.{AreApart, AreSeveralBehind, IsBehind, IsNoneBehind}
use Rattle.visibility_laws.specs.Steps.{IsFirst, IsFirstRefusal}

-- ---- names that two sources define

-- a unit stands in a list before another one first does
pub record StandsBefore (units : List ℕ) (earlier later : ℕ) : Type 0 where
  pub before : List ℕ
  pub after : List ℕ
  pub split : units ≡ before ++ earlier ∷ after
  pub not_yet : Contains (before ++ earlier ∷ []) later → ⊥

-- a unit has a name at a spot that an earlier source of the group defines too
pub record IsSecond (project : Project) (skeletons : List Skeleton) (g : ℕ) (at : ℕ × Spot) : Type 0 where
  pub earlier : ℕ
  pub defines : IsDefiner project skeletons g at.1.name earlier
  pub first : StandsBefore (sources project g) earlier at.0

-- 22 at the first such spot, by the sources in member order and by the skeleton of each
abbrev pub IsClashRefusal : Project → List Skeleton → ℕ → Diag → Type 0
IsClashRefusal project skeletons g diag =
    (at : ℕ × Spot) × IsFirst (IsSecond project skeletons g) (defined_spots skeletons (sources project g)) at
    × (diag ≡ clash_diag project at)

-- ---- one name

-- the export of a name, from the source that defines it or else from the one unit under which these members export it
pub record IsExport (project : Project) (skeletons : List Skeleton) (below : List (List Export)) (g : ℕ)
    (among : List ℕ) (name : ModName) (export : Export) : Type 0 where
  pub called : export.name ≡ name
  pub unit : IsBehind project skeletons below g among name export.unit
  pub read : export.hash ≡ None

-- an entry's name is refused at its place: 25 where no unit stands behind it, 23 where several do
abbrev pub IsNameRefusal : Project → List Skeleton → List (List Export) → ℕ → List ℕ → Place → ModName → Diag → Type 0
IsNameRefusal project skeletons below g among at name diag =
    (IsNoneBehind project skeletons below g among name × (diag ≡ name_refused 25 at name))
    ⊎ (AreSeveralBehind project skeletons below g among name × (diag ≡ name_refused 23 at name))

-- ---- the entries of an export list, by their numbers

-- the export of an entry: its name, as a source of the group or a member has it
pub record IsOfEntry (project : Project) (skeletons : List Skeleton) (below : List (List Export)) (g : ℕ)
    (entries : List Entry) (number : ℕ) (export : Export) : Type 0 where
  pub entry : Entry
  pub there : slice_get entries number ≡ Some entry
  pub exports : IsExport project skeletons below g (members project g) entry.name export

pub record RefusesEntry (project : Project) (skeletons : List Skeleton) (below : List (List Export)) (g : ℕ)
    (entries : List Entry) (number : ℕ) (diag : Diag) : Type 0 where
  pub entry : Entry
  pub there : slice_get entries number ≡ Some entry
  pub refuses : IsNameRefusal project skeletons below g (members project g) entry.at entry.name diag

-- the export of a chosen entry
pub record IsOfChosen (project : Project) (skeletons : List Skeleton) (below : List (List Export)) (g : ℕ)
    (entries : List Entry) (chosen : List ℕ) (export : Export) : Type 0 where
  pub number : ℕ
  pub among : Contains chosen number
  pub of : IsOfEntry project skeletons below g entries number export

-- ---- what a group shows

-- An export of a group: where entries are written, that of a chosen one; where none is, any name that a source defines,
-- and any that the subgroups export and no source defines. What comes from libraries alone isn't exported then.
abbrev pub IsShown : Project → List Skeleton → List (List Export) → ℕ → List Entry → List ℕ → Export → Type 0
IsShown project skeletons below g [] chosen export =
    IsExport project skeletons below g (subgroups project g) export.name export
IsShown project skeletons below g (entry ∷ entries) chosen export =
    IsOfChosen project skeletons below g (entry ∷ entries) chosen export

-- a name of several units that no other such name comes before
pub record IsLeastOfSeveral (project : Project) (skeletons : List Skeleton) (below : List (List Export)) (g : ℕ)
    (name : ModName) : Type 0 where
  pub several : AreSeveralBehind project skeletons below g (subgroups project g) name
  pub least : (other : ModName) → AreSeveralBehind project skeletons below g (subgroups project g) other
      → is_gt (name_cmp name other) ≡ false

-- 25 and 23 at the first chosen entry that is refused; where no entry is written, 23 on the group's file, for the least
-- name that the subgroups export under several units
abbrev pub IsShownRefusal : Project → List Skeleton → List (List Export) → ℕ → List ℕ → List Entry → List ℕ → Diag
    → Type 0
IsShownRefusal project skeletons below g file [] chosen diag =
    (name : ModName) × IsLeastOfSeveral project skeletons below g name
    × (diag ≡ name_refused 23 (file_place file) name)
IsShownRefusal project skeletons below g file (entry ∷ entries) chosen diag =
    IsFirstRefusal (RefusesEntry project skeletons below g (entry ∷ entries)) chosen diag

-- ---- a group that was read from its description

-- the exports of a group, as a set
pub record AreExports (project : Project) (skeletons : List Skeleton) (defs : List Def) (below : List (List Export))
    (g : ℕ) (group : Group) (exports : List Export) : Type 0 where
  pub apart : AreApart project skeletons g
  pub chosen : List ℕ
  pub chooses : chosen_items defs (names_there project skeletons below g) group.export_lines ≡ Ok chosen
  pub all : (export : Export)
      → Contains exports export ↔ IsShown project skeletons below g group.entries chosen export

-- a refusal of what the chosen entries name, or of what the group shows by itself
pub record IsChosenRefusal (project : Project) (skeletons : List Skeleton) (defs : List Def)
    (below : List (List Export)) (g : ℕ) (group : Group) (diag : Diag) : Type 0 where
  pub chosen : List ℕ
  pub chooses : chosen_items defs (names_there project skeletons below g) group.export_lines ≡ Ok chosen
  pub shown : IsShownRefusal project skeletons below g group.file group.entries chosen diag

-- The refusal of a group's exports: 22; else 3 or 4 of the export list; else 25 and 23.
abbrev pub IsExportRefusal : Project → List Skeleton → List Def → List (List Export) → ℕ → Group → Diag → Type 0
IsExportRefusal project skeletons defs below g group diag =
    IsClashRefusal project skeletons g diag
    ⊎ (AreApart project skeletons g
    × ((chosen_items defs (names_there project skeletons below g) group.export_lines ≡ Err diag)
    ⊎ IsChosenRefusal project skeletons defs below g group diag))
