-- The parts of a project by their numbers, and what the skeletons of its units say.
use Rattle.std.specs.Prelude.{ℕ, Bool, false, List, [], ◌∷◌, map, Option, slice_get, unwrap_or}
use Rattle.std.specs.Option.{option_map_or}
use Rattle.cm_base.specs.declared.diag.Diag.{Diag}
use Rattle.cm_base.specs.declared.diag.Place.{Place}
use Rattle.cm_base.specs.declared.record.ModName.{ModName}
use Rattle.cm_base.specs.declared.record.Skeleton.{Skeleton}
use Rattle.cm_base.specs.declared.record.Spot.{Spot}
use Rattle.cm_conditions.specs.Printing.{module_text}
use Rattle.cm_description.specs.declared.loaded.Group.{Group}
use Rattle.cm_description.specs.declared.loaded.Project.{Project}
use Rattle.cm_description.specs.declared.loaded.Unit.{Unit as ProjectUnit}

-- ---- groups and units

-- the sources of a group, in member order
abbrev pub sources : Project → ℕ → List ℕ
sources project g = option_map_or (λ (group : Group). group.units) (slice_get project.groups g) []

-- the groups and libraries among the members of a group, in member order
abbrev pub members : Project → ℕ → List ℕ
members project g = option_map_or (λ (group : Group). group.members) (slice_get project.groups g) []

abbrev pub is_library : Project → ℕ → Bool
is_library project g = option_map_or (λ (group : Group). group.library) (slice_get project.groups g) false

-- the group that has a unit as its source
abbrev pub group_of : Project → ℕ → ℕ
group_of project u = option_map_or (λ (unit : ProjectUnit). unit.group) (slice_get project.units u) 0

-- the name of a unit, which is that of its file
abbrev pub unit_file : Project → ℕ → List ℕ
unit_file project u = option_map_or (λ (unit : ProjectUnit). unit.name) (slice_get project.units u) []

-- ---- skeletons

-- a skeleton without names
abbrev pub no_names : Skeleton
no_names = record { defined = []; free = [] }

-- the skeleton of a unit
abbrev pub skeleton_of : List Skeleton → ℕ → Skeleton
skeleton_of skeletons u = unwrap_or (slice_get skeletons u) no_names

-- the module names that a unit defines, in written order
abbrev pub defined_by : List Skeleton → ℕ → List ModName
defined_by skeletons u = map (λ (spot : Spot). spot.name) (skeleton_of skeletons u).defined

-- ---- refusals

-- a place in a unit's file
abbrev pub spot_place : List ℕ → Spot → Place
spot_place file spot = record { file = file; line = spot.line; col = spot.col }

-- a file as a whole
abbrev pub file_place : List ℕ → Place
file_place file = record { file = file; line = 0; col = 0 }

-- a refusal of a module name, which it shows behind its name space
abbrev pub name_refused : ℕ → Place → ModName → Diag
name_refused number at name = record { number = number; at = at; names = module_text name ∷ [] }
