use Rattle.std.proofs.Common.{refl}
use Rattle.interface_format.proofs.Told.{named_told}
use Rattle.interface_format.specs.Tags.{with_named}
use Rattle.interface_nodes.specs.Fields.{row_at}
use Rattle.row_fields.specs.Listing.{HasName}
use Rattle.row_fields.proofs.Listed.{one_more, too_few}
use Rattle.row_fields.proofs.fields.Fields.many_named.Goals as goal

pub returns-in-None : goal.returns-in-None
returns-in-None c =
    too_few row_at HasName with_named named_told c.loop.rows c.loop.counter c.args.count c.args.self.now c.loop.self
    c.loop.invariant (rw c.in-None.is at c.in_ok-row.ensures) c.loop-test.true

pub loop-preserved : goal.loop-preserved
loop-preserved c =
    one_more row_at HasName with_named c.loop.rows c.add.new.self c.in-Some.row c.loop.counter _ c.args.self.now c.loop.self
    c.named.new.self c.loop.invariant (rw c.in-Some.is at c.in_ok-row.ensures) c.in_ok-add-in-Some.ensures.ok refl
