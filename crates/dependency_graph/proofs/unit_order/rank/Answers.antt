use Rattle.std.proofs.Common.{subst, ◌≡◌, get_or}
use Rattle.std.specs.Prelude.{All}
use Rattle.dependency_graph.specs.Order.{Placed}
use Rattle.dependency_graph.proofs.Sorting.{rank_noted}
use Rattle.dependency_graph.proofs.unit_order.rank.Goals as goal

-- the rank is noted at the unit
pub returns : goal.returns
returns c =
    rw c.as_slice.ensures
    (subst (All (λ (p : Placed). p.unit ≡ c.args.unit → p.rank ≡ get_or c.order.inside.ranks c.args.unit 0))
    c.order.view_is
    (rank_noted c.order.inside.ranks c.order.inside.units c.args.unit))
