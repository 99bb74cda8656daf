use Rattle.written_variables.proofs.Forms.{pat_field_moved}
use Rattle.written_variables.proofs.walk_pat.+walk_pat.Goals as goal

pub walk_pat_fields-loop-field-preserved : goal.walk_pat_fields-loop-field-preserved
walk_pat_fields-loop-field-preserved t c = pat_field_moved c.args.fields.now c.loop-field.field-index
    c.field-item.result c.loop-field.met.items c.walk_pat.new.met.items _ c.loop-field-test.true c.field-item.is
    c.in_ok-walk_pat.ensures c.loop-field.invariant
