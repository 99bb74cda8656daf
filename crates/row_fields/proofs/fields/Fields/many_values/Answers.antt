use Rattle.std.proofs.Common.{refl}
use Rattle.interface_format.proofs.Told.{value_told}
use Rattle.interface_format.specs.Tags.{with_value}
use Rattle.interface_nodes.specs.Fields.{value_at}
use Rattle.row_fields.specs.Listing.{IsValueName}
use Rattle.row_fields.proofs.Listed.{one_more, too_few}
use Rattle.row_fields.proofs.fields.Fields.many_values.Goals as goal

pub returns-in-None : goal.returns-in-None
returns-in-None c =
    too_few value_at IsValueName with_value value_told c.loop.rows c.loop.counter c.args.count c.args.self.now c.loop.self
    c.loop.invariant (rw c.in-None.is at c.in_ok-row.ensures) c.loop-test.true

pub loop-preserved : goal.loop-preserved
loop-preserved c =
    one_more value_at IsValueName with_value c.loop.rows c.add.new.self c.in-Some.row c.loop.counter _ c.args.self.now c.loop.self
    c.value.new.self c.loop.invariant (rw c.in-Some.is at c.in_ok-row.ensures) c.in_ok-add-in-Some.ensures.ok refl
