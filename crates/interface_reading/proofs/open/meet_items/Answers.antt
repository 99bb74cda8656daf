use Rattle.std.proofs.Common.{◌-◌, arith, ap, ◌∙◌}
use Rattle.interface_reading.specs.Needs.{shape_over, listed_then}
use Rattle.node_bytes.specs.Formats.{Shape}
use Rattle.interface_reading.proofs.Awaited.{items_more}
use Rattle.interface_reading.specs.Weights.{needs_weight}
use Rattle.interface_reading.specs.declared.needs.Need.TheVariants as need
use Rattle.interface_reading.proofs.Opens.{needs_snoc}
use Rattle.interface_reading.proofs.open.meet_items.Goals as goal

pub returns-clause-goes : goal.returns-clause-goes
returns-clause-goes c = λ bytes.
    items_more c.args.listed c.args.n (c.args.n - 1) c.args.top.now c.add_item.new.needs bytes
    (omega (arith, c.if-n-eq0.false))
    (c.in_ok-add_item.ensures.awaits
    ∙ ap (λ needs. listed_then c.args.listed (shape_over Shape.complete needs)) c.in_ok-add.ensures.ok)

pub returns-clause-less : goal.returns-clause-less
returns-clause-less c = λ bytes.
    let more = c.in_ok-add_item.ensures.few in
    let first = ap needs_weight c.in_ok-add.ensures.ok in
    let snoc = needs_snoc c.args.top.now.needs (need.Items c.args.listed (c.args.n - 1)) in
    let some = c.if-n-eq0.false in
    omega (arith, more, first, snoc, some)
