use Rattle.std.proofs.Common.{◌≡◌, ◌++◌, drop, flat_map}
use Rattle.cm_bytes.specs.Fields.{list_of}
use Rattle.sml_syntax.specs.Code.{ty_of, ty_field_of}
use Rattle.sml_syntax.proofs.write_ty.+write_ty.Given as goal

-- in each loop: what is written, and the items that are left
abbrev pub invariant-write_tys-loop-ty : goal.invariant-write_tys-loop-ty
invariant-write_tys-loop-ty l =
    l.out ++ flat_map ty_of (drop l.ty-index l.tys) ≡ l.fn.out ++ list_of ty_of l.fn.tys

abbrev pub invariant-write_ty_fields-loop-field : goal.invariant-write_ty_fields-loop-field
invariant-write_ty_fields-loop-field l =
    l.out ++ flat_map ty_field_of (drop l.field-index l.fields) ≡ l.fn.out ++ list_of ty_field_of l.fn.fields
