use Rattle.std.proofs.Common.{List}
use Rattle.node_bytes.specs.Shapes.{with_items}
use Rattle.row_fields.specs.Taking.{Begins}
use Rattle.node_bytes.specs.Nodes.{Node}
use Rattle.interface_format.specs.Tags.{with_named}
use Rattle.interface_nodes.specs.Fields.{row_at}
use Rattle.row_fields.specs.Listing.{each_of, AreMany, HasName}
use Rattle.row_fields.proofs.fields.Fields.many_named.Given as goal

abbrev pub invariant-loop : goal.invariant-loop
invariant-loop l = (made : List Node)
    → Begins (AreMany l.counter HasName) (with_items with_named) made (each_of row_at made l.rows) l.fn.self l.self
