use Rattle.written_variables.proofs.Forms.{ty_field_moved}
use Rattle.written_variables.proofs.walk_ty.+walk_ty.Goals as goal

pub walk_ty_fields-loop-field-preserved : goal.walk_ty_fields-loop-field-preserved
walk_ty_fields-loop-field-preserved t c = ty_field_moved c.args.fields.now c.loop-field.field-index c.field-item.result
    c.loop-field.met.items c.walk_ty.new.met.items _ c.loop-field-test.true c.field-item.is c.in_ok-walk_ty.ensures
    c.loop-field.invariant
