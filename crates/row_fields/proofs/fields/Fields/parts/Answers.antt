use Rattle.node_bytes.specs.Nodes.{Content}
use Rattle.row_fields.specs.Taking.{IsAny, part_of}
use Rattle.row_fields.proofs.Listed.{list_taken}
use Rattle.row_fields.proofs.fields.Fields.parts.Goals as goal

pub returns : goal.returns
returns c =
    list_taken part_of IsAny Content.part c.in-Some.count c.many_parts.result c.args.self.now c.number.new.self c.many_parts.new.self
    c.in-Some.ensures c.many_parts.ensures
