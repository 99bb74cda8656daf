-- What is kept while the names of a group are found: tables by name, and what is found and shown by them.
-- Only private functions cite this file.
use Rattle.std.specs.Prelude.{◌≡◌, ℕ, ◌==◌, Bool, true, false, not, ◌||◌, if◌then◌else◌, List, [], ◌∷◌, ◌++◌, map, filter, flat_map, fold, length, unwrap_or, option_to_list, Option, Some, None, slice_get, slice_set, Result, Ok, Err}
use Rattle.std.specs.List.{position_from}
use Rattle.std.specs.Option.{option_or}
use Rattle.std.specs.FinMap.{from_entries}
use Rattle.indexmap.specs.IndexMap.{IndexMap, get}
use Rattle.indexmap.specs.IndexSet.{IndexSet, contains}
use Rattle.cm_base.specs.Diags.{◌>>=◌}
use Rattle.cm_base.specs.Places.{item_at}
use Rattle.cm_base.specs.declared.diag.Diag.{Diag}
use Rattle.cm_base.specs.declared.diag.Place.{Place}
use Rattle.cm_base.specs.declared.fault.Fault.{Fault}
use Rattle.cm_base.specs.declared.fault.Fault.TheVariants as fault
use Rattle.cm_base.specs.declared.record.Def.{Def}
use Rattle.cm_base.specs.declared.record.ModName.{ModName}
use Rattle.cm_base.specs.declared.record.Skeleton.{Skeleton}
use Rattle.cm_base.specs.declared.record.Spot.{Spot}
use Rattle.cm_conditions.specs.Tables.{same_name}
use Rattle.cm_description.specs.declared.description.Entry.{Entry}
use Rattle.cm_description.specs.declared.loaded.Export.{Export}
use Rattle.cm_description.specs.declared.loaded.Group.{Group}
use Rattle.cm_description.specs.declared.loaded.Project.{Project}
use Rattle.cm_description.specs.declared.loaded.Wanted.{Wanted}
use Rattle.visibility.specs.Choosing.{chosen_items}
use Rattle.visibility.specs.Exports.{clash_among, clash_diag, clash_in, default_exports, entry_exports, export_by, exports_of, name_cmp, named, names_in, recorded_or, shown_list, subgroups, unless_clash}
use Rattle.visibility.specs.Imports.{collected, imports_in, imports_with}
use Rattle.visibility.specs.Naming.{importing, with_imports}
use Rattle.visibility.specs.Projects.{members, sources}
use Rattle.visibility.specs.Providers.{definers, definers_among, other_definers, found_in, or_else, units_under}
use Rattle.visibility.specs.contracts.entries.ShownPartialEq.TheImpl as equality
use Rattle.visibility.specs.declared.entries.Shown.{Shown}
use Rattle.visibility.specs.declared.found.Found.{Found}
use Rattle.visibility.specs.declared.found.Found.TheVariants as found
use Rattle.visibility.specs.declared.group_names.GroupNames.{GroupNames}

-- ---- answers

-- the call answers the one item of a list
abbrev pub GivesItem : {A : Type 0} → Result A Fault → Result (List A) Diag → Type 0
GivesItem (Ok item) defined = defined ≡ Ok (item ∷ [])
GivesItem (Err (fault.Diag diag)) defined = defined ≡ Err diag
GivesItem (Err fault.NoMemory) defined = Unit {0}

-- .. if there is one
abbrev pub GivesOption : {A : Type 0} → Result (Option A) Fault → Result (List A) Diag → Type 0
GivesOption (Ok item) defined = defined ≡ Ok (option_to_list item)
GivesOption (Err (fault.Diag diag)) defined = defined ≡ Err diag
GivesOption (Err fault.NoMemory) defined = Unit {0}

-- ---- what groups export

-- a table has the first place of each group
abbrev pub ArePlaces : (ℕ → Option ℕ) → List ℕ → Type 0
ArePlaces places finished = (g : ℕ) → places g ≡ position_from (λ h. h == g) 0 finished

-- what a group exports, by its place
abbrev pub shown_at : (ℕ → Option ℕ) → List (List Export) → ℕ → List Export
shown_at places below m = unwrap_or (item_at below (places m)) []

abbrev pub shown_among : (ℕ → Option ℕ) → List (List Export) → List ℕ → List Export
shown_among places below among = flat_map (shown_at places below) among

-- ---- the units under which members export a name

-- with one more unit, which may be the one that is found already
abbrev pub with_unit : Found → ℕ → Found
with_unit found.Missing u = found.One u
with_unit (found.One v) u = if v == u then found.One v else found.Several
with_unit found.Several u = found.Several

-- what a table finds at a name
abbrev pub at_name : (ModName → Option Found) → ModName → Found
at_name table name = unwrap_or (table name) found.Missing

-- a table finds at each name, besides what it found, the units of these exports
abbrev pub Notes : (ModName → Option Found) → (ModName → Option Found) → List Export → Type 0
Notes old new exports =
    (name : ModName) → at_name new name ≡ fold with_unit (at_name old name) (units_under exports name)

-- a table finds the units under which these members export each name
abbrev pub FindsAmong : (ModName → Option Found) → (ℕ → Option ℕ) → List (List Export) → List ℕ → Type 0
FindsAmong table places below among =
    (name : ModName) → at_name table name ≡ found_in (units_under (shown_among places below among) name)

-- ---- the sources that define a name

-- whether a unit may define a name that this one defines, if one does
abbrev pub fits : Option ℕ → ℕ → Bool
fits None u = true
fits (Some v) u = v == u

-- a unit is noted at a name, where none was
pub record NotesFirst (old new : ModName → Option ℕ) (name : ModName) (u : ℕ) (fit : Bool) : Type 0 where
  pub right : fit ≡ fits (old name) u
  pub noted : fit ≡ true → (n : ModName) → new n ≡ option_or (old n) (if same_name name n then Some u else None)

-- the unit of the first of these spots that has a name
abbrev pub unit_of : List (ℕ × Spot) → ModName → Option ℕ
unit_of [] name = None
unit_of (at ∷ more) name = if same_name at.1.name name then Some at.0 else unit_of more name

-- what a table finds with these spots behind it
abbrev pub with_spots : (ModName → Option ℕ) → List (ℕ × Spot) → ModName → Option ℕ
with_spots table spots name = option_or (table name) (unit_of spots name)

-- the first of these spots whose name another unit defines, in a table or before
abbrev pub clash_after : (ModName → Option ℕ) → List (ℕ × Spot) → Option (ℕ × Spot)
clash_after table [] = None
clash_after table (at ∷ more) =
    if fits (table at.1.name) at.0 then clash_after (with_spots table (at ∷ [])) more else Some at

-- the spots are added, or refused at the first clash
abbrev pub AddsSpots : Result (Unit {0}) Fault → (ModName → Option ℕ) → (ModName → Option ℕ) → Project
    → List (ℕ × Spot) → Type 0
AddsSpots (Ok done) old new project spots =
    (clash_after old spots ≡ None) × ((name : ModName) → new name ≡ with_spots old spots name)
AddsSpots (Err (fault.Diag diag)) old new project spots =
    (at : ℕ × Spot) × (clash_after old spots ≡ Some at) × (diag ≡ clash_diag project at)
AddsSpots (Err fault.NoMemory) old new project spots = Unit {0}

abbrev pub first_of : List ℕ → Option ℕ
first_of [] = None
first_of (v ∷ more) = Some v

-- a table finds the one of these units that defines a name, and no two define one
pub record FindsFirst (table : ModName → Option ℕ) (skeletons : List Skeleton) (units : List ℕ) : Type 0 where
  pub apart : clash_among skeletons units ≡ None
  pub first : (name : ModName) → table name ≡ first_of (definers_among skeletons units name)

-- a refusal of the first clash
abbrev pub IsClash : Diag → Project → List Skeleton → List ℕ → Type 0
IsClash diag project skeletons units =
    (at : ℕ × Spot) × (clash_among skeletons units ≡ Some at) × (diag ≡ clash_diag project at)

abbrev pub MakesDefiners : {S : Type 0} → Result (IndexMap ModName ℕ S) Fault → Project → List Skeleton → List ℕ
    → Type 0
MakesDefiners (Ok table) project skeletons units = FindsFirst (get same_name table) skeletons units
MakesDefiners (Err (fault.Diag diag)) project skeletons units = IsClash diag project skeletons units
MakesDefiners (Err fault.NoMemory) project skeletons units = Unit {0}

-- ---- the names of a group

-- the source that defines a name
abbrev pub defining : Option ℕ → Found
defining None = found.Missing
defining (Some v) = found.One v

-- .. other than this one
abbrev pub defining_else : ℕ → Option ℕ → Found
defining_else u None = found.Missing
defining_else u (Some v) = if v == u then found.Missing else found.One v

-- what stands behind a name, and what provides it for a unit
abbrev pub behind_by : GroupNames → ModName → Found
behind_by names name =
    or_else (defining (get same_name names.definers name)) (at_name (get same_name names.members) name)

abbrev pub provider_by : GroupNames → ℕ → ModName → Found
provider_by names u name =
    or_else (defining_else u (get same_name names.definers name)) (at_name (get same_name names.members) name)

-- the tables find the names of a group
pub record AreNames (names : GroupNames) (project : Project) (skeletons : List Skeleton) (places : ℕ → Option ℕ)
    (below : List (List Export)) (g : ℕ) : Type 0 where
  pub definers : FindsFirst (get same_name names.definers) skeletons (sources project g)
  pub members : FindsAmong (get same_name names.members) places below (members project g)

abbrev pub MakesNames : Result GroupNames Fault → Project → List Skeleton → (ℕ → Option ℕ) → List (List Export) → ℕ
    → Type 0
MakesNames (Ok names) project skeletons places below g = AreNames names project skeletons places below g
MakesNames (Err (fault.Diag diag)) project skeletons places below g = IsClash diag project skeletons (sources project g)
MakesNames (Err fault.NoMemory) project skeletons places below g = Unit {0}

-- ---- exports

abbrev pub same_shown : Shown → Shown → Bool
same_shown a b = (equality.ghosts).eq a b

abbrev pub has_shown : {S : Type 0} → IndexSet Shown S → Shown → Bool
has_shown set key = contains same_shown set key

abbrev pub shown_of : Export → Shown
shown_of e = record { name = e.name; unit = e.unit }

-- an export is added, unless a set has it already
pub record ShowsOnce {S : Type 0} (old new : IndexSet Shown S) (before now : List Export)
    (export : Export) : Type 0 where
  pub set : (key : Shown) → has_shown new key ≡ (same_shown (shown_of export) key || has_shown old key)
  pub list : now ≡ (if has_shown old (shown_of export) then before else before ++ export ∷ [])

-- the exports of these entries by the tables
abbrev pub entries_by : GroupNames → List Entry → List ℕ → Result (List Export) Diag
entries_by names entries chosen = entry_exports (behind_by names) entries chosen

-- a table of names has these
abbrev pub HasNames : List (ModName × Unit {0}) → List ModName → Type 0
HasNames entries names = from_entries {R = name_cmp} entries ≡ from_entries {R = name_cmp} (map named names)

-- what stands behind a name: the source that defines it, or else what is found elsewhere
abbrev pub defined_or : GroupNames → (ModName → Found) → ModName → Found
defined_or names others name = or_else (defining (get same_name names.definers name)) (others name)

-- the exports of these names by the tables
abbrev pub defaults_by : GroupNames → (ModName → Option Found) → Place → List ModName → Result (List Export) Diag
defaults_by names table at ordered =
    collected (λ name. export_by at name (defined_or names (at_name table) name)) ordered

-- what the subgroups of a group export
abbrev pub shown_below : Project → (ℕ → Option ℕ) → List (List Export) → ℕ → List Export
shown_below project places below g = shown_among places below (subgroups project g)

-- the exports of a group without an entry, by what is found behind names
abbrev pub default_exports_by : Project → List Skeleton → (ℕ → Option ℕ) → List (List Export) → (ModName → Found) → ℕ
    → List ℕ → Result (List Export) Diag
default_exports_by project skeletons places below behind g file =
    default_exports behind file (names_in skeletons (sources project g) (shown_below project places below g))

-- the exports of a group, by what is found behind names among its members, and among its subgroups
abbrev pub shown_by_tables : Project → List Skeleton → List Def → (ℕ → Option ℕ) → List (List Export)
    → (ModName → Found) → (ModName → Found) → ℕ → Group → Result (List Export) Diag
shown_by_tables project skeletons defs places below behind beneath g group = do
  chosen ← chosen_items defs
      (names_in skeletons (sources project g) (shown_among places below (members project g))) group.export_lines
  shown_list behind beneath group (names_in skeletons (sources project g) (shown_below project places below g)) chosen

-- what is found of a name among exports that subgroups show
abbrev pub beneath_by : GroupNames → List Export → ModName → Found
beneath_by names exports = defined_or names (λ name. found_in (units_under exports name))

-- what stands behind a name in a group, as lists
abbrev pub behind_in : Project → List Skeleton → ℕ → List Export → ModName → Found
behind_in project skeletons g exports name =
    or_else (found_in (definers project skeletons g name)) (found_in (units_under exports name))

-- the exports of a group, with a table of places alone
abbrev pub shown_in : Project → List Skeleton → List Def → (ℕ → Option ℕ) → List (List Export) → ℕ → Group
    → Result (List Export) Diag
shown_in project skeletons defs places below g group = shown_by_tables project skeletons defs places below
    (behind_in project skeletons g (shown_among places below (members project g)))
    (behind_in project skeletons g (shown_below project places below g)) g group

abbrev pub exports_by_tables : Project → List Skeleton → List Def → (ℕ → Option ℕ) → List (List Export) → ℕ → Group
    → Result (List Export) Diag
exports_by_tables project skeletons defs places below g group = recorded_or group.thawed
    (unless_clash project (clash_in project skeletons g) (shown_in project skeletons defs places below g group))

-- ---- imports

-- the imports of a unit by the names of its group
abbrev pub imports_by_tables : Project → List Skeleton → GroupNames → ℕ → Result (List Wanted) Diag
imports_by_tables project skeletons names u = imports_with project skeletons (provider_by names u) u

-- ---- all names

-- the imports of units are set, or refused at the first
abbrev pub AddsImports : Result (Unit {0}) Fault → (ℕ → Result (List Wanted) Diag) → List ℕ → List (List Wanted)
    → List (List Wanted) → Type 0
AddsImports (Ok done) imports units old new = with_imports imports units old ≡ Ok new
AddsImports (Err (fault.Diag diag)) imports units old new = with_imports imports units old ≡ Err diag
AddsImports (Err fault.NoMemory) imports units old new = Unit {0}

-- what a group adds to the names: its exports, and then the imports of its units
pub record Added : Type 0 where
  pub exports : List Export
  pub wanted : List (List Wanted)

abbrev pub added : List Export → List (List Wanted) → Added
added exports wanted = record { exports = exports; wanted = wanted }

abbrev pub with_group : Project → List Skeleton → List Def → List (List Export) → ℕ → List (List Wanted)
    → Result Added Diag
with_group project skeletons defs below g wanted = do
  exports ← exports_of project skeletons defs g below
  set ← with_imports (imports_in project skeletons below g) (importing project g) wanted
  Ok (added exports set)

-- the same of a group that was read from its description, with a table of places
abbrev pub with_read : Project → List Skeleton → List Def → (ℕ → Option ℕ) → List (List Export) → ℕ → Group
    → (ℕ → Result (List Wanted) Diag) → List (List Wanted) → Result Added Diag
with_read project skeletons defs places below g group imports wanted = do
  exports ← unless_clash project (clash_in project skeletons g) (shown_in project skeletons defs places below g group)
  set ← with_imports imports group.units wanted
  Ok (added exports set)

abbrev pub Adds : Result (List Export) Fault → Result Added Diag → List (List Wanted) → Type 0
Adds (Ok exports) defined new = defined ≡ Ok (added exports new)
Adds (Err (fault.Diag diag)) defined new = defined ≡ Err diag
Adds (Err fault.NoMemory) defined new = Unit {0}

-- the imports of a source of a group, with a table of places
abbrev pub imports_read : Project → List Skeleton → (ℕ → Option ℕ) → List (List Export) → ℕ → ℕ
    → Result (List Wanted) Diag
imports_read project skeletons places below g u = imports_with project skeletons
    (λ name. or_else (found_in (other_definers project skeletons g u name))
    (found_in (units_under (shown_among places below (members project g)) name))) u

abbrev pub AddsRead : Result (List Export) Fault → Project → List Skeleton → List Def → (ℕ → Option ℕ)
    → List (List Export) → ℕ → Group → List (List Wanted) → List (List Wanted) → Type 0
AddsRead result project skeletons defs places below g group old new = Adds result
    (with_read project skeletons defs places below g group (imports_read project skeletons places below g) old) new

abbrev pub AddsGroup : Result (List Export) Fault → Project → List Skeleton → List Def → List (List Export) → ℕ
    → List (List Wanted) → List (List Wanted) → Type 0
AddsGroup result project skeletons defs below g old new =
    Adds result (with_group project skeletons defs below g old) new
