-- Which unit provides a module name ("Hierarchical Modularity", scoping of groups): one of the sources of the group
-- itself, or else the one unit under which the groups and libraries among its members export the name.
use Rattle.std.specs.Prelude.{◌≡◌, ◌≢◌, ◌⊎◌, ℕ, ◌==◌, Bool, not, if◌then◌else◌, List, [], ◌∷◌, map, filter, flat_map, unwrap_or, Option, Contains}
use Rattle.std.specs.List.{list_all, position_from}
use Rattle.cm_base.specs.Places.{item_at}
use Rattle.cm_base.specs.declared.record.ModName.{ModName}
use Rattle.cm_base.specs.declared.record.Skeleton.{Skeleton}
use Rattle.cm_conditions.specs.Values.{same_module, has_module}
use Rattle.cm_description.specs.declared.loaded.Export.{Export}
use Rattle.cm_description.specs.declared.loaded.Project.{Project}
use Rattle.visibility.specs.Projects.{sources, members, group_of, defined_by}
use Rattle.visibility.specs.declared.found.Found.{Found}
use Rattle.visibility.specs.declared.found.Found.TheVariants as found

-- ---- the lists

-- those of these units that define a name
abbrev pub definers_among : List Skeleton → List ℕ → ModName → List ℕ
definers_among skeletons units name = filter (λ u. has_module (defined_by skeletons u) name) units

-- the sources of a group that define a name, in member order
abbrev pub definers : Project → List Skeleton → ℕ → ModName → List ℕ
definers project skeletons g name = definers_among skeletons (sources project g) name

-- the same without the unit that asks: what a source defines never serves its own free names
abbrev pub other_definers : Project → List Skeleton → ℕ → ℕ → ModName → List ℕ
other_definers project skeletons g u name = filter (λ v. not (v == u)) (definers project skeletons g name)

-- what a group exports: `below` has the exports of the groups that ended before, in the order in which they ended
abbrev pub exports_at : Project → List (List Export) → ℕ → List Export
exports_at project below m = unwrap_or (item_at below (position_from (λ g. g == m) 0 project.finished)) []

-- what these members export, one member after another
abbrev pub exports_among : Project → List (List Export) → List ℕ → List Export
exports_among project below among = flat_map (exports_at project below) among

-- the units of the exports of a name
abbrev pub units_under : List Export → ModName → List ℕ
units_under exports name = map (λ (e : Export). e.unit) (filter (λ (e : Export). same_module e.name name) exports)

-- the units under which these members export a name; a unit that comes through two members stands twice
abbrev pub exported_under : Project → List (List Export) → List ℕ → ModName → List ℕ
exported_under project below among name = units_under (exports_among project below among) name

-- ---- what is found

-- units as a set: none, one, or several
abbrev pub found_in : List ℕ → Found
found_in [] = found.Missing
found_in (v ∷ more) = if list_all (λ w. v == w) more then found.One v else found.Several

-- what is found, or else what is found elsewhere
abbrev pub or_else : Found → Found → Found
or_else found.Missing other = other
or_else (found.One v) other = found.One v
or_else found.Several other = found.Several

-- the unit behind a name: of these definers, or else that under which these members export it
abbrev pub found_behind : Project → List (List Export) → List ℕ → List ℕ → ModName → Found
found_behind project below defining among name =
    or_else (found_in defining) (found_in (exported_under project below among name))

-- the provider of a name for a source of a group
abbrev pub provider_in : Project → List Skeleton → List (List Export) → ℕ → ℕ → ModName → Found
provider_in project skeletons below g u name =
    found_behind project below (other_definers project skeletons g u name) (members project g) name

-- the provider of a name for a unit
abbrev pub provider_of : Project → List Skeleton → List (List Export) → ℕ → ModName → Found
provider_of project skeletons below u name = provider_in project skeletons below (group_of project u) u name

-- ---- the same as a relation

-- a unit is a source of the group and defines the name
pub record IsDefiner (project : Project) (skeletons : List Skeleton) (g : ℕ) (name : ModName) (u : ℕ) : Type 0 where
  pub source : Contains (sources project g) u
  pub named : Contains (defined_by skeletons u) name

-- another source of the unit's group defines the name
pub record IsOtherDefiner (project : Project) (skeletons : List Skeleton) (u : ℕ) (name : ModName)
    (v : ℕ) : Type 0 where
  pub definer : IsDefiner project skeletons (group_of project u) name v
  pub other : v ≢ u

-- one of these members exports the name under the unit
pub record IsExportedUnder (project : Project) (below : List (List Export)) (among : List ℕ) (name : ModName)
    (v : ℕ) : Type 0 where
  pub member : ℕ
  pub listed : Contains among member
  pub export : Export
  pub shown : Contains (exports_at project below member) export
  pub called : export.name ≡ name
  pub under : export.unit ≡ v

-- a fact holds of one unit alone
pub record HoldsOfOne (P : ℕ → Type 0) (v : ℕ) : Type 0 where
  pub so : P v
  pub alone : (w : ℕ) → P w → w ≡ v

-- .. of no unit
abbrev pub HoldsOfNone : (ℕ → Type 0) → Type 0
HoldsOfNone P = (w : ℕ) → P w → ⊥

-- .. of two units at least
pub record HoldsOfSeveral (P : ℕ → Type 0) : Type 0 where
  pub first : ℕ
  pub second : ℕ
  pub so : P first
  pub too : P second
  pub apart : first ≢ second

-- a fact holds of as many units as are found
abbrev pub Finds : (ℕ → Type 0) → Found → Type 0
Finds P found.Missing = HoldsOfNone P
Finds P (found.One v) = HoldsOfOne P v
Finds P found.Several = HoldsOfSeveral P

-- `v` provides the name for `u`: another source of `u`'s group that defines it; failing that, the one unit that the
-- group's members export under this name
abbrev pub Provides : Project → List Skeleton → List (List Export) → ℕ → ModName → ℕ → Type 0
Provides project skeletons below u name v =
    HoldsOfOne (IsOtherDefiner project skeletons u name) v
    ⊎ (HoldsOfNone (IsOtherDefiner project skeletons u name)
    × HoldsOfOne (IsExportedUnder project below (members project (group_of project u)) name) v)
