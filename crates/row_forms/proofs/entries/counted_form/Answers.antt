use Rattle.node_bytes.specs.Nodes.{Content}
use Rattle.node_bytes.specs.Shapes.{with_number}
use Rattle.interface_format.specs.Rules.{IsNumber}
use Rattle.row_fields.specs.Taking.{itself, part_of, IsAny}
use Rattle.row_forms.specs.Forms.{FitsCounted, with_counted}
use Rattle.row_forms.proofs.Formed.{at_start, rest_lacks, more_left, tells_number, tells_part, not_end}
use Rattle.row_forms.proofs.entries.counted_form.Goals as goal

pub returns-then-not-at_end : goal.returns-then-not-at_end
returns-then-not-at_end c =
    at_start FitsCounted with_counted c.new-fields.result c.args.items.now c.new-fields.ensures
    (rest_lacks itself IsNumber IsAny with_number Content.part c.in_ok-count.count c.new-fields.result c.number.new.self
    tells_number c.in_ok-count.ensures
    (more_left part_of IsAny Content.part c.in_ok-place.place c.number.new.self c.part.new.self tells_part
    c.in_ok-place.ensures (not_end c.at_end.result c.at_end.ensures c.if-not-at_end.true)))
