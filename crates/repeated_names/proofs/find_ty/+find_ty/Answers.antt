use Rattle.repeated_names.specs.RepeatedTypes.{ty_repeats, ty_field_member}
use Rattle.repeated_names.proofs.Found.{phrase_step, member_step, ty_field_member-kept}
use Rattle.repeated_names.proofs.find_ty.+find_ty.Goals as goal

pub find_tys-loop-ty-preserved : goal.find_tys-loop-ty-preserved
find_tys-loop-ty-preserved t c =
    phrase_step ty_repeats c.args.tys.now c.loop-ty.ty-index c.ty-item.result c.loop-ty.finder c.find_ty.new.finder _
    c.loop-ty-test.true c.ty-item.is c.in_ok-find_ty.ensures c.loop-ty.invariant

pub find_ty_fields-loop-field-preserved : goal.find_ty_fields-loop-field-preserved
find_ty_fields-loop-field-preserved t c =
    member_step ty_field_member c.args.fields.now c.loop-field.field-index c.field-item.result _ c.loop-field.finder
    c.see.new.self c.find_ty.new.finder _ c.loop-field.seen.keys c.see.new.seen.keys c.loop-field-test.true
    c.field-item.is (ty_field_member-kept c.field-item.result) c.in_ok-see.ensures.first c.in_ok-see.ensures.names
    c.in_ok-find_ty.ensures c.loop-field.invariant
