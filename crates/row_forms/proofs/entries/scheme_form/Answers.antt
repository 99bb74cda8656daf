use Rattle.node_bytes.specs.Nodes.{Content}
use Rattle.row_fields.specs.Taking.{itself, part_of, IsAny}
use Rattle.row_forms.specs.Forms.{FitsScheme, with_scheme, with_marks, AreMarks, scheme_at}
use Rattle.row_forms.proofs.Formed.{at_start, form_at_start, first_lacks, rest_lacks, last_lacks, more_left, last_is, both_are, tells_marks, tells_part, none_begins, not_end, is_end}
use Rattle.row_forms.proofs.entries.scheme_form.Goals as goal

pub returns-in_default : goal.returns-in_default
returns-in_default c =
    at_start FitsScheme with_scheme c.new-fields.result c.args.items.now c.new-fields.ensures
    (first_lacks AreMarks IsAny with_marks Content.part c.new-fields.result
    (none_begins itself AreMarks with_marks c.in_ok-marks.field-0 c.new-fields.result c.take_marks.new.fields
    c.in_ok-marks.ensures (λ x e. c.in_default.not-Some x e)))

pub returns-in_default-part : goal.returns-in_default-part
returns-in_default-part c =
    at_start FitsScheme with_scheme c.new-fields.result c.args.items.now c.new-fields.ensures
    (rest_lacks itself AreMarks IsAny with_marks Content.part c.in-Some.marks c.new-fields.result c.take_marks.new.fields
    tells_marks (rw c.in-Some.is at c.in_ok-marks.ensures)
    (last_lacks IsAny Content.part c.take_marks.new.fields c.in_default-part.ensures))

pub returns-then-not-at_end : goal.returns-then-not-at_end
returns-then-not-at_end c =
    at_start FitsScheme with_scheme c.new-fields.result c.args.items.now c.new-fields.ensures
    (rest_lacks itself AreMarks IsAny with_marks Content.part c.in-Some.marks c.new-fields.result c.take_marks.new.fields
    tells_marks (rw c.in-Some.is at c.in_ok-marks.ensures)
    (more_left part_of IsAny Content.part c.in-Some-part.place c.take_marks.new.fields c.part.new.self tells_part
    c.in-Some-part.ensures (not_end c.at_end.result c.at_end.ensures c.if-not-at_end.true)))

pub returns : goal.returns
returns c =
    form_at_start scheme_at FitsScheme with_scheme (record { marks = c.in-Some.marks; place = c.in-Some-part.place })
    c.new-fields.result c.args.items.now c.new-fields.ensures
    (both_are itself part_of AreMarks IsAny with_marks Content.part c.in-Some.marks c.in-Some-part.place
    c.new-fields.result c.take_marks.new.fields (rw c.in-Some.is at c.in_ok-marks.ensures)
    (last_is part_of IsAny Content.part c.in-Some-part.place c.take_marks.new.fields c.part.new.self
    c.in-Some-part.ensures (is_end c.at_end.result c.at_end.ensures c.if-not-at_end.false)))
