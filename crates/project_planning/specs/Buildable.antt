-- What a build asks of a plan.
use Rattle.std.specs.Prelude.{◌≡◌, ◌<◌, List, length, All}
use Rattle.cm_base.specs.declared.record.PlannedUnit.{PlannedUnit}
use Rattle.cm_description.specs.declared.loaded.Project.{Project}
use Rattle.cm_description.specs.declared.loaded.Wanted.{Wanted}
use Rattle.cutoff_builder.specs.Planning.{planned_of}
use Rattle.project_planning.specs.declared.plan.Plan.{Plan}

-- the units of a plan in their order, as a build takes them
abbrev pub planned_units : Project → Plan → List PlannedUnit
planned_units project plan = planned_of project plan.skeletons plan.wanted plan.order

-- each provider of these imports is a unit of the project
abbrev pub AreProvided : Project → List (List Wanted) → Type 0
AreProvided project wanted = All (λ list. All (λ w. w.provider < length project.units) list) wanted
