use Rattle.std.proofs.Common.{◌≡◌, ◌++◌, ◌+◌, drop, map}
use Rattle.bare_forms.specs.Types.{ty_fields_from, bare_ty, bare_ty_field}
use Rattle.phrase_forms.proofs.ty.+to_ty.Given as goal

-- in each loop: what is made, and the items that are left
abbrev pub invariant-to_tys-loop-ty : goal.invariant-to_tys-loop-ty
invariant-to_tys-loop-ty l = l.made ++ map bare_ty (drop l.ty-index l.tys) ≡ map bare_ty l.tys

abbrev pub invariant-to_ty_fields-loop-field : goal.invariant-to_ty_fields-loop-field
invariant-to_ty_fields-loop-field l =
    l.made ++ map bare_ty_field (drop l.field-index l.fields) ≡ map bare_ty_field l.fields

abbrev pub invariant-to_ty_tuple-loop-part : goal.invariant-to_ty_tuple-loop-part
invariant-to_ty_tuple-loop-part l =
    (l.number ≡ l.part-index + 1)
    × (l.made ++ ty_fields_from l.at l.number (map bare_ty (drop l.part-index l.parts))
    ≡ ty_fields_from l.at 1 (map bare_ty l.parts))
