use Rattle.interface_format.specs.Tags.{with_named}
use Rattle.interface_nodes.specs.Fields.{row_at}
use Rattle.row_fields.specs.Listing.{HasName}
use Rattle.row_fields.proofs.Listed.{list_taken}
use Rattle.row_fields.proofs.fields.Fields.table.Goals as goal

pub returns : goal.returns
returns c =
    list_taken row_at HasName with_named c.in-Some.count c.many_named.result c.args.self.now c.number.new.self c.many_named.new.self
    c.in-Some.ensures c.many_named.ensures
