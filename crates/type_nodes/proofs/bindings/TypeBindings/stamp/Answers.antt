use Rattle.std.proofs.Common.{◌≡◌, slice_get, Some, subst}
use Rattle.type_nodes.specs.Stamps.{Holds}
use Rattle.type_nodes.proofs.bindings.TypeBindings.stamp.Goals as goal

pub returns-then-self-lt18446744073709551615 : goal.returns-then-self-lt18446744073709551615
returns-then-self-lt18446744073709551615 c =
    let stamp = c.in-Some.stamp in
    let e : slice_get c.self.inside.stamps.items c.args.node ≡ Some (Some stamp) = c.kept_at.ensures stamp c.in-Some.is in
    subst (λ t. Holds t c.args.node stamp) c.self.view_is
    ((c.self.invariant.stamps c.args.node stamp e).holds c.if-stamp-self.true c.if-self-lt18446744073709551615.true)
