-- What the planning of a project answers.
use Rattle.std.specs.Prelude.{ℕ, List, Result}
use Rattle.skeleton_asking.specs.Answers.{PlanAsks, PlanGives}
use Rattle.skeleton_asking.specs.declared.fault.PlanFault.{PlanFault}
use Rattle.project_planning.specs.Planning.{Planning}
use Rattle.project_planning.specs.declared.plan.Plan.{Plan}

-- a project is planned so: the plan or the refusal, and what the compiler was asked for
pub record Plans (result : Result Plan PlanFault) (planning : Planning) (old new : List (List ℕ)) : Type 0 where
  pub gives : PlanGives result planning.result
  pub asks : PlanAsks result old new planning.asked
