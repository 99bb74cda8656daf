use Rattle.node_bytes.specs.Nodes.{Content}
use Rattle.node_bytes.specs.Shapes.{with_list}
use Rattle.interface_format.specs.Tags.{with_named}
use Rattle.row_fields.specs.Taking.{part_of, IsAny}
use Rattle.interface_nodes.specs.Fields.{row_at}
use Rattle.row_fields.specs.Listing.{each_of, AreItems, HasName}
use Rattle.row_forms.specs.Forms.{FitsType, with_type, type_at}
use Rattle.row_forms.proofs.Formed.{at_start, form_at_start, rest_lacks, more_behind, last_is, both_are, tells_part, not_end, is_end}
use Rattle.row_forms.proofs.entries.type_form.Goals as goal

pub returns-then-not-at_end : goal.returns-then-not-at_end
returns-then-not-at_end c =
    at_start FitsType with_type c.new-fields.result c.args.items.now c.new-fields.ensures
    (rest_lacks part_of IsAny (AreItems HasName) Content.part (with_list with_named) c.in-Some.function
    c.new-fields.result c.part.new.self tells_part c.in-Some.ensures
    (more_behind c.in-Some-2.cons c.part.new.self c.table.new.self (rw c.in-Some-2.is at c.in_ok-cons.ensures)
    (not_end c.at_end.result c.at_end.ensures c.if-not-at_end.true)))

pub returns : goal.returns
returns c =
    form_at_start type_at FitsType with_type (record { function = c.in-Some.function; cons = c.in-Some-2.cons })
    c.new-fields.result c.args.items.now c.new-fields.ensures
    (both_are part_of (each_of row_at) IsAny (AreItems HasName) Content.part (with_list with_named) c.in-Some.function
    c.in-Some-2.cons c.new-fields.result c.part.new.self c.in-Some.ensures
    (last_is (each_of row_at) (AreItems HasName) (with_list with_named) c.in-Some-2.cons c.part.new.self
    c.table.new.self (rw c.in-Some-2.is at c.in_ok-cons.ensures)
    (is_end c.at_end.result c.at_end.ensures c.if-not-at_end.false)))
