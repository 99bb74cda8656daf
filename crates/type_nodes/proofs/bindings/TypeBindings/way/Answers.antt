use Rattle.std.proofs.Common.{◌≡◌, slice_get, Some, subst}
use Rattle.type_nodes.specs.Tables.{LinkedTo}
use Rattle.type_nodes.proofs.bindings.TypeBindings.way.Goals as goal

pub returns-then-self-lt18446744073709551615 : goal.returns-then-self-lt18446744073709551615
returns-then-self-lt18446744073709551615 c =
    let way = c.in-Some.way in
    let e : slice_get c.self.inside.ways.items c.args.variable ≡ Some (Some way) = c.kept_at.ensures way c.in-Some.is in
    subst (λ t. LinkedTo t c.args.variable way.to) c.self.view_is
    ((c.self.invariant.ways c.args.variable way e).leads c.if-way-self.true c.if-self-lt18446744073709551615.true)
