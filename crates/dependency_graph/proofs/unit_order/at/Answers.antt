use Rattle.std.proofs.Common.{sym, subst, ◌≡◌, map, slice_get, Some, length, ◌<◌, List, get_or}
use Rattle.std.proofs.lemmas.List.{length-map}
use Rattle.dependency_graph.specs.Order.{Placed}
use Rattle.dependency_graph.proofs.Sorting.{unit_at}
use Rattle.dependency_graph.proofs.unit_order.at.Goals as goal

-- the units stand in their order
pub returns : goal.returns
returns c =
    let within = subst (λ (l : List Placed). c.args.place < length l) (sym c.order.view_is) c.requires in
    let short : c.args.place < length c.order.inside.units = simp length-map at within in
    rw c.as_slice.ensures
    (subst (λ (l : List Placed). slice_get (map (λ p. p.unit) l) c.args.place ≡ Some
    (get_or c.order.inside.units c.args.place 0))
    c.order.view_is (unit_at c.order.inside.ranks c.order.inside.units c.args.place short))
