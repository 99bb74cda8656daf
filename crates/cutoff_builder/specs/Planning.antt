-- The units of a project in an order, as a build takes them: of each its source, its skeleton, and the names that it wants
-- with the units that provide them.
use Rattle.std.specs.Prelude.{ℕ, List, [], ◌∷◌, ◌++◌, Option, Some, None, map, slice_get}
use Rattle.cm_base.specs.declared.record.Options.{Options}
use Rattle.cm_base.specs.declared.record.PlannedUnit.{PlannedUnit}
use Rattle.cm_base.specs.declared.record.Skeleton.{Skeleton}
use Rattle.cm_base.specs.declared.record.WantedName.{WantedName}
use Rattle.cm_description.specs.declared.loaded.Project.{Project}
use Rattle.cm_description.specs.declared.loaded.Unit.{Unit as ProjectUnit}
use Rattle.cm_description.specs.declared.loaded.UnitBody.{UnitBody}
use Rattle.cm_description.specs.declared.loaded.UnitBody.TheVariants as body
use Rattle.cm_description.specs.declared.loaded.Wanted.{Wanted}
use Rattle.dependency_graph.specs.Order.{Placed}

-- the name of the unit of a number
abbrev pub name_in : Option ProjectUnit → List ℕ
name_in None = []
name_in (Some unit) = unit.name

abbrev pub wanted_name : List ProjectUnit → Wanted → WantedName
wanted_name units wanted = record { name = wanted.name; provider = name_in (slice_get units wanted.provider) }

-- a source unit, with its skeleton and with what it wants
abbrev pub source_unit : List ProjectUnit → List ℕ → Options → List ℕ → Skeleton → List Wanted → PlannedUnit
source_unit units name options source skeleton wanted = record {
  unit = name;
  options = options;
  source = source;
  skeleton = skeleton;
  wanted = map (wanted_name units) wanted;
}

-- the units that a build takes of a unit of the project: itself, where it is a source. A frozen one has nothing to build
abbrev pub of_body : List ProjectUnit → List ℕ → UnitBody → Skeleton → List Wanted → List PlannedUnit
of_body units name (body.Source options source) skeleton wanted = source_unit units name options source skeleton wanted ∷ []
of_body units name (body.Frozen imports interface code) skeleton wanted = []

abbrev pub of_parts : List ProjectUnit → Option ProjectUnit → Option Skeleton → Option (List Wanted) → List PlannedUnit
of_parts units (Some unit) (Some skeleton) (Some wanted) = of_body units unit.name unit.body skeleton wanted
of_parts units (Some unit) (Some skeleton) None = []
of_parts units (Some unit) None wanted = []
of_parts units None skeleton wanted = []

-- .. of the unit of a number
abbrev pub planned_at : Project → List Skeleton → List (List Wanted) → ℕ → List PlannedUnit
planned_at project skeletons wanted number =
    of_parts project.units (slice_get project.units number) (slice_get skeletons number) (slice_get wanted number)

-- .. of the units of some numbers, in this order
abbrev pub planned_in : Project → List Skeleton → List (List Wanted) → List ℕ → List PlannedUnit
planned_in project skeletons wanted [] = []
planned_in project skeletons wanted (number ∷ more) =
    planned_at project skeletons wanted number ++ planned_in project skeletons wanted more

-- one unit, or none
abbrev pub as_list : Option PlannedUnit → List PlannedUnit
as_list None = []
as_list (Some planned) = planned ∷ []

-- .. of all units, in an order
abbrev pub planned_of : Project → List Skeleton → List (List Wanted) → List Placed → List PlannedUnit
planned_of project skeletons wanted order = planned_in project skeletons wanted (map (λ placed. placed.unit) order)
