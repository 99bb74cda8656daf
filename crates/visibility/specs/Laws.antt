-- What the definitions of providers say together: what is found is what the relations say.
use Rattle.std.specs.Prelude.{◌≡◌, ℕ, List, Result, Ok, Contains}
use Rattle.cm_base.specs.declared.record.ModName.{ModName}
use Rattle.cm_base.specs.declared.record.Def.{Def}
use Rattle.cm_base.specs.declared.record.Skeleton.{Skeleton}
use Rattle.cm_base.specs.declared.fault.Fault.{Fault}
use Rattle.cm_base.specs.Calls.{Gives}
use Rattle.cm_conditions.specs.Chosen.{Selects}
use Rattle.cm_conditions.specs.declared.line.Line.{Line}
use Rattle.cm_description.specs.declared.loaded.Export.{Export}
use Rattle.cm_description.specs.declared.loaded.Project.{Project}
use Rattle.cm_description.specs.declared.loaded.Wanted.{Wanted}
use Rattle.visibility.specs.Choosing.{chosen_items}
use Rattle.visibility.specs.Imports.{imports_of}
use Rattle.visibility.specs.Projects.{group_of}
use Rattle.visibility.specs.Providers.{definers, other_definers, exported_under, found_in, provider_of, Finds, IsDefiner, IsOtherDefiner, IsExportedUnder, Provides}
use Rattle.visibility.specs.declared.found.Found.TheVariants as found

-- what is found among the sources that define a name is what the relation says ..
abbrev pub DefinersAreFound : Type 0
DefinersAreFound = (project : Project) (skeletons : List Skeleton) (g : ℕ) (name : ModName)
    → Finds (IsDefiner project skeletons g name) (found_in (definers project skeletons g name))

-- .. among the other sources of a unit's group ..
abbrev pub OthersAreFound : Type 0
OthersAreFound = (project : Project) (skeletons : List Skeleton) (u : ℕ) (name : ModName)
    → Finds (IsOtherDefiner project skeletons u name)
    (found_in (other_definers project skeletons (group_of project u) u name))

-- .. and under what members export
abbrev pub ExportsAreFound : Type 0
ExportsAreFound = (project : Project) (below : List (List Export)) (among : List ℕ) (name : ModName)
    → Finds (IsExportedUnder project below among name) (found_in (exported_under project below among name))

-- the provider that is found provides the name ..
abbrev pub FoundProvides : Type 0
FoundProvides = (project : Project) (skeletons : List Skeleton) (below : List (List Export)) (u : ℕ) (name : ModName)
    (v : ℕ)
    → provider_of project skeletons below u name ≡ found.One v → Provides project skeletons below u name v

-- .. and what provides it is found
abbrev pub ProviderIsFound : Type 0
ProviderIsFound = (project : Project) (skeletons : List Skeleton) (below : List (List Export)) (u : ℕ) (name : ModName)
    (v : ℕ)
    → Provides project skeletons below u name v → provider_of project skeletons below u name ≡ found.One v

-- the items that lines choose are those of `select`
abbrev pub ChosenAreSelected : Type 0
ChosenAreSelected = (defs : List Def) (there : List ModName) (lines : List Line) (result : Result (List ℕ) Fault)
    → Selects defs there lines result → Gives result (chosen_items defs there lines)

-- each import of a unit has the unit that provides its name
abbrev pub ImportsAreProvided : Type 0
ImportsAreProvided = (project : Project) (skeletons : List Skeleton) (below : List (List Export)) (u : ℕ)
    (imports : List Wanted) (import : Wanted)
    → imports_of project skeletons below u ≡ Ok imports → Contains imports import
    → Provides project skeletons below u import.name import.provider
