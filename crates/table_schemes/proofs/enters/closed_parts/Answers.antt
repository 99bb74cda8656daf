use Rattle.std.proofs.Common.{◌+◌, ◌∷◌, drop, ap, ◌∙◌}
use Rattle.type_schemes.proofs.Items.{rest_at}
use Rattle.table_schemes.proofs.Entering.{ids_next, open_here}
use Rattle.table_schemes.proofs.enters.closed_parts.Goals as goal

pub loop-part-preserved : goal.loop-part-preserved
loop-part-preserved c =
    let items = c.as_slice-part-items.result.now in
    let i = c.loop-part.part-index in
    ids_next c.args.parts.now (drop i c.args.parts.now) (drop (i + 1) c.args.parts.now) c.in-Closed.id c.loop-part.ids c.add.new.self
    (rest_at c.args.parts.now items i _ c.as_slice-part-items.ensures c.loop-part-test.true
    ∙ ap (λ z. z ∷ drop (i + 1) c.args.parts.now) c.in-Closed.is)
    c.in_ok-add-in-Closed.ensures.ok c.loop-part.invariant

pub returns-in-Bound : goal.returns-in-Bound
returns-in-Bound c =
    open_here c.args.parts.now c.as_slice-part-items.result.now c.loop-part.part-index _ c.as_slice-part-items.ensures
    c.loop-part-test.true c.in-Bound.is
