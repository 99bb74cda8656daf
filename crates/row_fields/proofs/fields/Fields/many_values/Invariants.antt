use Rattle.std.proofs.Common.{List}
use Rattle.node_bytes.specs.Shapes.{with_items}
use Rattle.row_fields.specs.Taking.{Begins}
use Rattle.node_bytes.specs.Nodes.{Node}
use Rattle.interface_format.specs.Tags.{with_value}
use Rattle.interface_nodes.specs.Fields.{value_at}
use Rattle.row_fields.specs.Listing.{each_of, AreMany, IsValueName}
use Rattle.row_fields.proofs.fields.Fields.many_values.Given as goal

abbrev pub invariant-loop : goal.invariant-loop
invariant-loop l = (made : List Node)
    → Begins (AreMany l.counter IsValueName) (with_items with_value) made (each_of value_at made l.rows) l.fn.self l.self
