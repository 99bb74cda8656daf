use Rattle.interface_format.specs.Tags.{with_value}
use Rattle.interface_nodes.specs.Fields.{value_at}
use Rattle.row_fields.specs.Listing.{IsValueName}
use Rattle.row_fields.proofs.Listed.{list_taken}
use Rattle.row_fields.proofs.fields.Fields.values.Goals as goal

pub returns : goal.returns
returns c =
    list_taken value_at IsValueName with_value c.in-Some.count c.many_values.result c.args.self.now c.number.new.self c.many_values.new.self
    c.in-Some.ensures c.many_values.ensures
