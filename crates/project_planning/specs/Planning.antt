-- What stands between loading and building: the skeletons of all units, the names that groups export and units import,
-- and the order of the units. Whatever is refused first ends it: a skeleton, then the names group by group, then a
-- cycle.
use Rattle.std.specs.Prelude.{ℕ, List, map, Option, Some, None, Result, Ok, Err}
use Rattle.cm_base.specs.Diags.{◌>>=◌}
use Rattle.cm_base.specs.Files.{Files}
use Rattle.cm_base.specs.declared.diag.Diag.{Diag}
use Rattle.cm_base.specs.declared.record.Def.{Def}
use Rattle.cm_base.specs.declared.record.Skeleton.{Skeleton}
use Rattle.cm_description.specs.declared.loaded.Project.{Project}
use Rattle.cm_description.specs.declared.loaded.Unit.{Unit as ProjectUnit}
use Rattle.cm_description.specs.declared.loaded.Wanted.{Wanted}
use Rattle.visibility.specs.Naming.{names_of}
use Rattle.visibility.specs.declared.names.Names.{Names}
use Rattle.dependency_graph.specs.Order.{Placed}
use Rattle.dependency_graph.specs.Ordered.{cycle_diag, ordered}
use Rattle.skeleton_asking.specs.Skeletons.{Skeletons, asked_over, skeletons_of, skeletons_over}
use Rattle.project_planning.specs.declared.plan.Plan.{Plan}

-- ---- the graph of units

-- the names of the units, by number
abbrev pub unit_names : Project → List (List ℕ)
unit_names project = map (λ (unit : ProjectUnit). unit.name) project.units

-- the providers of each unit, by number: of each name that it imports, in their order
abbrev pub providers_of : List Wanted → List ℕ
providers_of imports = map (λ (wanted : Wanted). wanted.provider) imports

abbrev pub edges_of : List (List Wanted) → List (List ℕ)
edges_of wanted = map providers_of wanted

-- the order of units of these names, or 26 on the cycle that stands in its way
abbrev pub unless_cycle : List (List ℕ) → Result (List Placed) (List ℕ) → Result (List Placed) Diag
unless_cycle names (Ok order) = Ok order
unless_cycle names (Err cycle) = Err (cycle_diag names cycle)

abbrev pub in_order : List (List ℕ) → List (List ℕ) → Result (List Placed) Diag
in_order names edges = unless_cycle names (ordered names edges)

-- ---- the plan

abbrev pub plan_in : List Skeleton → Names → List Placed → Plan
plan_in skeletons names order =
    record { skeletons = skeletons; exports = names.exports; wanted = names.wanted; order = order }

-- the plan of units with these skeletons
abbrev pub plan_with : Project → List Def → List Skeleton → Result Plan Diag
plan_with project defs skeletons = do
  names ← names_of project skeletons defs
  order ← in_order (unit_names project) (edges_of names.wanted)
  Ok (plan_in skeletons names order)

abbrev pub unless_refused : Option Diag → Result Plan Diag → Result Plan Diag
unless_refused None plan = plan
unless_refused (Some diag) plan = Err diag

-- ---- the planning of a project

-- the plan or what is refused, and the units whose skeletons the compiler was asked for
pub record Planning : Type 0 where
  pub result : Result Plan Diag
  pub asked : List (List ℕ)

-- .. after these skeletons
abbrev pub planning_after : Project → List Def → Skeletons → Planning
planning_after project defs skeletons = record {
  result = unless_refused skeletons.ended (plan_with project defs skeletons.found);
  asked = skeletons.asked;
}

-- the planning of a project over a compiler with these skeletons
abbrev pub plan_of : (List ℕ → List ℕ → Result Skeleton Diag) → Project → List Def → Planning
plan_of skel project defs = planning_after project defs (skeletons_of skel project)

-- .. over files, whoever wrote them: with the skeletons that binfiles have of the same sources
abbrev pub plan_over : (List ℕ → List ℕ → Result Skeleton Diag) → Files → Project → List Def → Planning
plan_over skel files project defs = planning_after project defs (skeletons_over skel files project)

-- the compiler's plan, where it is asked for those sources alone of which no binfile in these files was made
abbrev pub plain_plan : (List ℕ → List ℕ → Result Skeleton Diag) → Files → Project → List Def → Planning
plain_plan skel files project defs =
    record { result = (plan_of skel project defs).result; asked = asked_over skel files project }
