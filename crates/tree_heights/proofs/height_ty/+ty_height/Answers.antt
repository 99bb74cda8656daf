use Rattle.std.proofs.Common.{sym, ◌∙◌}
use Rattle.tree_heights.specs.FullHeights.{full_ty, full_ty_field}
use Rattle.tree_heights.proofs.TyHeights.{full_ty_field-kept}
use Rattle.tree_heights.proofs.Highest.{higher_step}
use Rattle.tree_heights.proofs.height_ty.+ty_height.Goals as goal

pub tys_height-loop-ty-preserved : goal.tys_height-loop-ty-preserved
tys_height-loop-ty-preserved t c =
    higher_step full_ty c.args.tys.now c.loop-ty.ty-index c.ty-item.result c.loop-ty.made
    c.in_ok-ty_height.field-0 c.max-made.result _ c.loop-ty-test.true c.ty-item.is c.in_ok-ty_height.ensures
    c.max-made.ensures c.loop-ty.invariant

pub ty_fields_height-loop-field-preserved : goal.ty_fields_height-loop-field-preserved
ty_fields_height-loop-field-preserved t c =
    higher_step full_ty_field c.args.fields.now c.loop-field.field-index c.field-item.result c.loop-field.made
    c.in_ok-ty_height.field-0 c.max-made.result _ c.loop-field-test.true c.field-item.is (c.in_ok-ty_height.ensures ∙ sym (full_ty_field-kept c.field-item.result))
    c.max-made.ensures c.loop-field.invariant
