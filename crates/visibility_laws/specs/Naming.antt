-- The names of a whole project, by the numbers of its groups and units.
use Rattle.std.specs.Prelude.{◌≡◌, ◌⊎◌, ◌<◌, ℕ, List, [], length, take, Ok, Err, Contains}
use Rattle.cm_base.specs.declared.diag.Diag.{Diag}
use Rattle.cm_base.specs.declared.record.Def.{Def}
use Rattle.cm_base.specs.declared.record.Skeleton.{Skeleton}
use Rattle.cm_description.specs.WellFormed.{StandsAt}
use Rattle.cm_description.specs.declared.loaded.Export.{Export}
use Rattle.cm_description.specs.declared.loaded.Project.{Project}
use Rattle.cm_description.specs.declared.loaded.Wanted.{Wanted}
use Rattle.visibility.specs.Exports.{exports_of}
use Rattle.visibility.specs.Imports.{imports_of}
use Rattle.visibility.specs.Naming.{importing}
use Rattle.visibility.specs.declared.names.Names.{Names}
use Rattle.visibility_laws.specs.Steps.{IsFirst}

-- each of these lists has the exports of the group that was finished at its place, after those before it
abbrev pub AreExportsInOrder : Project → List Skeleton → List Def → List (List Export) → Type 0
AreExportsInOrder project skeletons defs all =
    (place g : ℕ) (exports : List Export) → StandsAt project.finished place g → StandsAt all place exports
    → exports_of project skeletons defs g (take place all) ≡ Ok exports

-- a unit whose imports are looked for, and the place at which its group was finished
pub record ImportsAt (project : Project) (u place : ℕ) : Type 0 where
  pub group : ℕ
  pub finished : StandsAt project.finished place group
  pub source : Contains (importing project group) u

-- The names of a project: one list of exports for each group, in the order in which they were finished; and for each
-- unit by its number its imports, by what was exported before its group, or none for a unit of a frozen library.
pub record AreNames (project : Project) (skeletons : List Skeleton) (defs : List Def) (all : Names) : Type 0 where
  pub groups : length all.exports ≡ length project.finished
  pub exports : AreExportsInOrder project skeletons defs all.exports
  pub units : length all.wanted ≡ length project.units
  pub imports : (u place : ℕ) (imports : List Wanted) → ImportsAt project u place → StandsAt all.wanted u imports
      → imports_of project skeletons (take place all.exports) u ≡ Ok imports
  pub others : (u : ℕ) (imports : List Wanted) → ((place : ℕ) → ImportsAt project u place → ⊥)
      → StandsAt all.wanted u imports → imports ≡ []

-- the first unit of a group whose imports are refused, once the group's exports are found
pub record IsUnitRefusal (project : Project) (skeletons : List Skeleton) (defs : List Def) (below : List (List Export))
    (g : ℕ) (diag : Diag) : Type 0 where
  pub exports : List Export
  pub found : exports_of project skeletons defs g below ≡ Ok exports
  pub unit : ℕ
  pub first : IsFirst (λ u. (other : Diag) × (imports_of project skeletons below u ≡ Err other))
      (importing project g) unit
  pub refused : imports_of project skeletons below unit ≡ Err diag

-- The first refusal of a project: nothing is refused of the groups that were finished before, and of the next one its
-- exports are, or else the imports of one of its units.
pub record IsNamesRefusal (project : Project) (skeletons : List Skeleton) (defs : List Def) (diag : Diag) : Type 0 where
  pub below : List (List Export)
  pub exports : AreExportsInOrder project skeletons defs below
  pub imported : (u place : ℕ) → place < length below → ImportsAt project u place
      → (imports : List Wanted) × (imports_of project skeletons (take place below) u ≡ Ok imports)
  pub group : ℕ
  pub next : StandsAt project.finished (length below) group
  pub refused : (exports_of project skeletons defs group below ≡ Err diag)
      ⊎ IsUnitRefusal project skeletons defs below group diag
