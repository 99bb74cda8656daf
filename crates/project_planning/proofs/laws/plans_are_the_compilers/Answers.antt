use Rattle.project_planning.proofs.Steps.{plan_same}
use Rattle.project_planning.proofs.laws.plans_are_the_compilers.Goals as goal

pub returns : goal.returns
returns c = plan_same
