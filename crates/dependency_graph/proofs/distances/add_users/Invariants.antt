use Rattle.dependency_graph.specs.Distances.{AreUsers}
use Rattle.dependency_graph.proofs.distances.add_users.Given as goal

abbrev pub invariant-loop-user : goal.invariant-loop-user
invariant-loop-user l = AreUsers l.edges l.users l.user
