use Rattle.node_bytes.specs.Nodes.{Content}
use Rattle.node_bytes.specs.Shapes.{with_number}
use Rattle.interface_format.specs.Rules.{IsNumber}
use Rattle.row_fields.specs.Taking.{itself, part_of, IsAny}
use Rattle.row_forms.specs.Forms.{AreBoth, with_both, FitsCounted, with_counted, FitsFunctor, with_functor}
use Rattle.row_forms.proofs.Formed.{at_start, rest_lacks, more_left, tells_number, tells_part, not_end}
use Rattle.row_forms.proofs.modules.functor_form.Goals as goal

pub returns-then-not-at_end : goal.returns-then-not-at_end
returns-then-not-at_end c =
    at_start FitsFunctor with_functor c.new-fields.result c.args.items.now c.new-fields.ensures
    (rest_lacks itself IsNumber (AreBoth IsAny FitsCounted) with_number (with_both Content.part with_counted)
    c.in_ok-bound.bound c.new-fields.result c.number.new.self tells_number c.in_ok-bound.ensures
    (rest_lacks part_of IsAny FitsCounted Content.part with_counted c.in_ok-param.param c.number.new.self
    c.part.new.self tells_part c.in_ok-param.ensures
    (rest_lacks itself IsNumber IsAny with_number Content.part c.in_ok-further.further c.part.new.self
    c.number-2.new.self tells_number c.in_ok-further.ensures
    (more_left part_of IsAny Content.part c.in_ok-body.body c.number-2.new.self c.part-2.new.self tells_part
    c.in_ok-body.ensures (not_end c.at_end.result c.at_end.ensures c.if-not-at_end.true)))))
