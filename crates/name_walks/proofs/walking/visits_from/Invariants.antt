use Rattle.name_walks.proofs.Visiting.{IsVisiting}
use Rattle.name_walks.proofs.walking.visits_from.Given as goal

abbrev pub invariant-loop : goal.invariant-loop
invariant-loop l = IsVisiting l.fn.nodes l.fn.at l.visits l.done l.steps
