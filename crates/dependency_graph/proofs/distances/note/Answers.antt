use Rattle.std.proofs.Common.{refl}
use Rattle.dependency_graph.proofs.Spreading.{spread_one}
use Rattle.dependency_graph.proofs.distances.note.Goals as goal

-- the unit had no distance
pub returns-in_ok-push-in-None : goal.returns-in_ok-push-in-None
returns-in_ok-push-in-None c =
    spread_one _ _ _ _ _ _ c.requires c.in-None.is refl c.in_ok-push-in-None.ensures.items
