use Rattle.given_tops.specs.Names.{nodes_of}
use Rattle.given_tops.specs.Walking.{AreFit, AreAsked}
use Rattle.given_tops.proofs.walk.walk.Given as goal

abbrev pub invariant-loop : goal.invariant-loop
invariant-loop l = record {
  fit : AreFit (nodes_of l.fn.limits) l.fn.g.items l.done;
  steps : AreAsked (nodes_of l.fn.limits) l.fn.g.items l.fn.root l.steps;
}
