use Rattle.std.proofs.Common.{List}
use Rattle.node_bytes.specs.Shapes.{with_items}
use Rattle.row_fields.specs.Taking.{Begins, IsAny, part_of}
use Rattle.node_bytes.specs.Nodes.{Node, Content}
use Rattle.row_fields.specs.Listing.{each_of, AreMany}
use Rattle.row_fields.proofs.fields.Fields.many_parts.Given as goal

abbrev pub invariant-loop : goal.invariant-loop
invariant-loop l = (made : List Node)
    → Begins (AreMany l.counter IsAny) (with_items Content.part) made (each_of part_of made l.places) l.fn.self l.self
