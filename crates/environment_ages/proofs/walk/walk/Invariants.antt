use Rattle.environment_ages.specs.Walking.{AreBelow, AreAsked}
use Rattle.environment_ages.proofs.walk.walk.Given as goal

abbrev pub invariant-loop : goal.invariant-loop
invariant-loop l = record {
  below : AreBelow l.fn.count l.fn.g.items l.done;
  steps : AreAsked l.fn.count l.fn.g.items l.fn.root l.steps;
}
