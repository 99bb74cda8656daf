-- What units import, groups export and projects name is what the relations say.
use Rattle.std.specs.Prelude.{◌≡◌, ◌↔◌, ℕ, List, None, Some, Ok, Err, Contains, slice_get}
use Rattle.cm_base.specs.declared.diag.Diag.{Diag}
use Rattle.cm_base.specs.declared.record.Def.{Def}
use Rattle.cm_base.specs.declared.record.Need.{Need}
use Rattle.cm_base.specs.declared.record.Skeleton.{Skeleton}
use Rattle.cm_description.specs.WellFormed.{IsWellFormed}
use Rattle.cm_description.specs.declared.loaded.Export.{Export}
use Rattle.cm_description.specs.declared.loaded.Group.{Group}
use Rattle.cm_description.specs.declared.loaded.Project.{Project}
use Rattle.cm_description.specs.declared.loaded.Wanted.{Wanted}
use Rattle.visibility.specs.Exports.{clash_in, exports_of}
use Rattle.visibility.specs.Imports.{imports_of}
use Rattle.visibility.specs.Naming.{names_of}
use Rattle.visibility.specs.Projects.{skeleton_of}
use Rattle.visibility.specs.Providers.{Provides}
use Rattle.visibility.specs.declared.names.Names.{Names}
use Rattle.visibility_laws.specs.Behind.{AreApart}
use Rattle.visibility_laws.specs.Exporting.{AreExports, IsExportRefusal}
use Rattle.visibility_laws.specs.Importing.{AreImports, IsImportRefusal}
use Rattle.visibility_laws.specs.Naming.{AreNames, IsNamesRefusal}

-- ---- imports

-- the imports of a unit are those of the relation ..
abbrev pub ImportsAreThese : Type 0
ImportsAreThese = (project : Project) (skeletons : List Skeleton) (below : List (List Export)) (u : ℕ)
    (imports : List Wanted)
    → (imports_of project skeletons below u ≡ Ok imports) ↔ AreImports project skeletons below u imports

-- .. and so is its refusal
abbrev pub ImportsAreRefused : Type 0
ImportsAreRefused = (project : Project) (skeletons : List Skeleton) (below : List (List Export)) (u : ℕ) (diag : Diag)
    → (imports_of project skeletons below u ≡ Err diag) ↔ IsImportRefusal project skeletons below u diag

-- a name that a unit uses and that a unit provides is imported from it
abbrev pub ProvidedAreImported : Type 0
ProvidedAreImported = (project : Project) (skeletons : List Skeleton) (below : List (List Export)) (u : ℕ)
    (imports : List Wanted) (need : Need) (v : ℕ)
    → imports_of project skeletons below u ≡ Ok imports → Contains (skeleton_of skeletons u).free need
    → Provides project skeletons below u need.spot.name v
    → Contains imports (record { name = need.spot.name; provider = v })

-- ---- exports

-- nothing is 22 exactly where no two sources of a group define one name
abbrev pub ClashesAreSeveral : Type 0
ClashesAreSeveral = (project : Project) (skeletons : List Skeleton) (g : ℕ)
    → (clash_in project skeletons g ≡ None) ↔ AreApart project skeletons g

-- the exports of a group that was read from its description are those of the relation ..
abbrev pub ExportsAreThese : Type 0
ExportsAreThese = (project : Project) (skeletons : List Skeleton) (defs : List Def) (below : List (List Export)) (g : ℕ)
    (group : Group) (exports : List Export)
    → slice_get project.groups g ≡ Some group → group.thawed ≡ None
    → exports_of project skeletons defs g below ≡ Ok exports
    → AreExports project skeletons defs below g group exports

-- .. and so is its refusal
abbrev pub ExportsAreRefused : Type 0
ExportsAreRefused = (project : Project) (skeletons : List Skeleton) (defs : List Def) (below : List (List Export))
    (g : ℕ) (group : Group) (diag : Diag)
    → slice_get project.groups g ≡ Some group → group.thawed ≡ None
    → (exports_of project skeletons defs g below ≡ Err diag)
    ↔ IsExportRefusal project skeletons defs below g group diag

-- a frozen library exports what it records
abbrev pub FrozenExportsAreRecorded : Type 0
FrozenExportsAreRecorded = (project : Project) (skeletons : List Skeleton) (defs : List Def)
    (below : List (List Export)) (g : ℕ) (group : Group) (recorded : List Export)
    → slice_get project.groups g ≡ Some group → group.thawed ≡ Some recorded
    → exports_of project skeletons defs g below ≡ Ok recorded

-- ---- all names

-- the names of a well-formed project are those of its groups and units, by their numbers ..
abbrev pub NamesAreThese : Type 0
NamesAreThese = (project : Project) (skeletons : List Skeleton) (defs : List Def) (all : Names) → IsWellFormed project
    → (names_of project skeletons defs ≡ Ok all) ↔ AreNames project skeletons defs all

-- .. and its refusal is the first one of them
abbrev pub NamesAreRefused : Type 0
NamesAreRefused = (project : Project) (skeletons : List Skeleton) (defs : List Def) (diag : Diag)
    → IsWellFormed project
    → (names_of project skeletons defs ≡ Err diag) ↔ IsNamesRefusal project skeletons defs diag
