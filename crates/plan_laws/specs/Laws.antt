-- A plan is an order of a project's units: each stands in it once, behind those that provide its names. A build takes
-- each source of it.
use Rattle.std.specs.Prelude.{ℕ, ◌≡◌, ◌≢◌, ◌↔◌, List, [], ◌∷◌, length, map, Result, Ok, All, Contains}
use Rattle.std.specs.List.{AllByRecursion}
use Rattle.cm_base.specs.Files.{Files}
use Rattle.cm_base.specs.declared.diag.Diag.{Diag}
use Rattle.cm_base.specs.declared.record.Def.{Def}
use Rattle.cm_base.specs.declared.record.PlannedUnit.{PlannedUnit}
use Rattle.cm_base.specs.declared.record.Skeleton.{Skeleton}
use Rattle.cm_description.specs.WellFormed.{AllDiffer, IsWellFormed}
use Rattle.cm_description.specs.declared.loaded.Project.{Project}
use Rattle.cm_description.specs.declared.loaded.Unit.{Unit as ProjectUnit}
use Rattle.cm_description.specs.declared.loaded.UnitBody.{UnitBody}
use Rattle.cm_description.specs.declared.loaded.UnitBody.TheVariants as body
use Rattle.visibility.specs.Naming.{names_of}
use Rattle.visibility.specs.declared.names.Names.{Names}
use Rattle.dependency_graph.specs.Cycle.{HasNoCycle, IsOrdered}
use Rattle.build_laws.specs.Planned.{NamesDiffer}
use Rattle.project_planning.specs.Buildable.{AreProvided, planned_units}
use Rattle.project_planning.specs.Planning.{edges_of, plan_over, plan_with, unit_names}
use Rattle.project_planning.specs.declared.plan.Plan.{Plan}

-- ---- the order

-- The lists of a plan have one entry for each unit, and providers are units. Its order has each unit at one place, by
-- rank and then by name, behind its providers, and no unit lies on a cycle.
pub record IsInOrder (project : Project) (plan : Plan) : Type 0 where
  pub skeletons : length plan.skeletons ≡ length project.units
  pub wanted : length plan.wanted ≡ length project.units
  pub providers : AreProvided project plan.wanted
  pub once : AllDiffer (map (λ placed. placed.unit) plan.order)
  pub ordered : IsOrdered (unit_names project) (edges_of plan.wanted) plan.order

-- a plan is so where each unit has a skeleton
abbrev pub PlansAreOrders : Type 0
PlansAreOrders = (project : Project) (defs : List Def) (skeletons : List Skeleton) (plan : Plan) → IsWellFormed project
    → length skeletons ≡ length project.units → plan_with project defs skeletons ≡ Ok plan → IsInOrder project plan

-- .. as over any files, whoever wrote them
abbrev pub StoredPlansAreOrders : Type 0
StoredPlansAreOrders = (skel : List ℕ → List ℕ → Result Skeleton Diag) (files : Files) (project : Project)
    (defs : List Def) (plan : Plan) → IsWellFormed project → (plan_over skel files project defs).result ≡ Ok plan
    → IsInOrder project plan

-- where the names are found there is a plan exactly where there is no cycle
abbrev pub CyclesHaveNoPlan : Type 0
CyclesHaveNoPlan = (project : Project) (defs : List Def) (skeletons : List Skeleton) (names : Names)
    → IsWellFormed project → names_of project skeletons defs ≡ Ok names
    → HasNoCycle (edges_of names.wanted) ↔ ((plan : Plan) × (plan_with project defs skeletons ≡ Ok plan))

-- ---- what a build takes

-- a unit has a source to build
abbrev pub IsSource : UnitBody → Type 0
IsSource (body.Source options source) = Unit {0}
IsSource (body.Frozen imports interface code) = ⊥

-- a planned unit is this unit of the project, with its source
pub record IsOfUnit (unit : ProjectUnit) (planned : PlannedUnit) : Type 0 where
  pub name : planned.unit ≡ unit.name
  pub source : unit.body ≡ body.Source planned.options planned.source

-- no unit that provides a name stands where the name is wanted, or behind
abbrev pub AreProvidersBefore : List PlannedUnit → Type 0
AreProvidersBefore [] = Unit {0}
AreProvidersBefore (p ∷ ps) =
    All (λ wanted. AllByRecursion (λ (q : PlannedUnit). q.unit ≢ wanted.provider) (p ∷ ps)) p.wanted
    × AreProvidersBefore ps

-- planned units are the sources of a project, each once, with providers first
pub record TakesEachSource (project : Project) (planned : List PlannedUnit) : Type 0 where
  pub each : (unit : ProjectUnit) → Contains project.units unit → IsSource unit.body
      → (p : PlannedUnit) × Contains planned p × IsOfUnit unit p
  pub only : (p : PlannedUnit) → Contains planned p
      → (unit : ProjectUnit) × Contains project.units unit × IsOfUnit unit p
  pub once : NamesDiffer planned
  pub before : AreProvidersBefore planned

abbrev pub BuildsTakeEachSource : Type 0
BuildsTakeEachSource = (project : Project) (plan : Plan) → IsWellFormed project → IsInOrder project plan
    → TakesEachSource project (planned_units project plan)
