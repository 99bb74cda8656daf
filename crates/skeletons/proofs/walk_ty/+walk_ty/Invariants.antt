use Rattle.std.proofs.Common.{◌≡◌, map, drop}
use Rattle.skeletons.specs.Scopes.{all_uses}
use Rattle.skeletons.specs.Uses.{ty_uses, ty_field_uses}
use Rattle.skeletons.specs.Walks.{noted}
use Rattle.skeletons.proofs.walk_ty.+walk_ty.Given as goal

-- what is noted, and the parts that are left
abbrev pub invariant-walk_ty_fields-loop-field : goal.invariant-walk_ty_fields-loop-field
invariant-walk_ty_fields-loop-field l =
    noted l.walk (all_uses (map ty_field_uses (drop l.field-index l.fields)))
    ≡ noted l.fn.walk (all_uses (map ty_field_uses l.fn.fields))

-- what is noted, and the parts that are left
abbrev pub invariant-walk_tys-loop-ty : goal.invariant-walk_tys-loop-ty
invariant-walk_tys-loop-ty l =
    noted l.walk (all_uses (map ty_uses (drop l.ty-index l.tys)))
    ≡ noted l.fn.walk (all_uses (map ty_uses l.fn.tys))
