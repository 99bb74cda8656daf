use Rattle.std.proofs.Common.{refl}
use Rattle.node_bytes.specs.Nodes.{Content}
use Rattle.interface_format.proofs.Told.{part_told}
use Rattle.row_fields.specs.Taking.{IsAny, part_of}
use Rattle.row_fields.proofs.Listed.{one_more, too_few}
use Rattle.row_fields.proofs.fields.Fields.many_parts.Goals as goal

pub returns-in-None : goal.returns-in-None
returns-in-None c =
    too_few part_of IsAny Content.part part_told c.loop.places c.loop.counter c.args.count c.args.self.now c.loop.self
    c.loop.invariant c.in-None.ensures c.loop-test.true

pub loop-preserved : goal.loop-preserved
loop-preserved c =
    one_more part_of IsAny Content.part c.loop.places c.add.new.self c.in-Some.place c.loop.counter _ c.args.self.now
    c.loop.self c.part.new.self c.loop.invariant c.in-Some.ensures c.in_ok-add-in-Some.ensures.ok refl
