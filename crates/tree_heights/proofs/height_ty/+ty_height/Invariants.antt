use Rattle.std.proofs.Common.{◌≡◌, map, drop}
use Rattle.tree_heights.specs.Heights.{highest_with, highest}
use Rattle.tree_heights.specs.FullHeights.{full_ty, full_ty_field}
use Rattle.tree_heights.proofs.height_ty.+ty_height.Given as goal

-- in each loop: what is made, and the items that are left
abbrev pub invariant-tys_height-loop-ty : goal.invariant-tys_height-loop-ty
invariant-tys_height-loop-ty l =
    highest_with l.made (map full_ty (drop l.ty-index l.tys)) ≡ highest (map full_ty l.tys)

abbrev pub invariant-ty_fields_height-loop-field : goal.invariant-ty_fields_height-loop-field
invariant-ty_fields_height-loop-field l =
    highest_with l.made (map full_ty_field (drop l.field-index l.fields)) ≡ highest (map full_ty_field l.fields)
