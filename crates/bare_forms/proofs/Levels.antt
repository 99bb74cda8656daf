-- What one level of a tree as it is written becomes, with what its parts become.
use Rattle.std.proofs.Common.{◌≡◌, List, sym, ap, ◌∙◌, map}
use Rattle.bare_forms.specs.Types.{ty_fields_from, ty_level, ty_field_level, bare_ty, bare_ty_field}
use Rattle.sml_trees.specs.declared.name.At.{At}
use Rattle.sml_trees.specs.declared.name.LongName.{LongName}
use Rattle.sml_trees.specs.declared.full_ty.FullTy.{FullTy}
use Rattle.sml_trees.specs.declared.full_ty.FullTy.TheOpen.{FullTy-F}
use Rattle.sml_trees.specs.declared.full_ty.FullTy.TheFolds.{fold-roll-FullTy, fold-roll-FullTyField}
use Rattle.sml_trees.specs.declared.full_ty.FullTy.TheVariants as full
use Rattle.sml_trees.specs.declared.full_ty.FullTyField.{FullTyField, out-FullTyField, roll-out-FullTyField}
use Rattle.sml_trees.specs.declared.ty.Ty.TheVariants as ty
use Rattle.sml_trees.specs.declared.ty.TyField.{roll-TyField}

pub bare_ty-Record : (fields : List FullTyField) (at : At)
    → bare_ty (full.Record fields at) ≡ ty.Record (map bare_ty_field fields) at
bare_ty-Record fields at =
    ap bare_ty (sym (full.rolls-Record fields at))
    ∙ fold-roll-FullTy _ _ ty_level ty_field_level (FullTy-F.Record fields at)

pub bare_ty-AppliedAll : (args : List FullTy) (long : LongName) (at : At)
    → bare_ty (full.AppliedAll args long at) ≡ ty.Named (map bare_ty args) long at
bare_ty-AppliedAll args long at =
    ap bare_ty (sym (full.rolls-AppliedAll args long at))
    ∙ fold-roll-FullTy _ _ ty_level ty_field_level (FullTy-F.AppliedAll args long at)

pub bare_ty-Tuple : (parts : List FullTy) (at : At)
    → bare_ty (full.Tuple parts at) ≡ ty.Record (ty_fields_from at 1 (map bare_ty parts)) at
bare_ty-Tuple parts at =
    ap bare_ty (sym (full.rolls-Tuple parts at))
    ∙ fold-roll-FullTy _ _ ty_level ty_field_level (FullTy-F.Tuple parts at)

-- a field keeps its label
pub bare_ty_field-kept : (field : FullTyField)
    → bare_ty_field field
    ≡ roll-TyField (record { label = (out-FullTyField field).label; ty = bare_ty ((out-FullTyField field).ty) })
bare_ty_field-kept field =
    ap bare_ty_field (sym (roll-out-FullTyField field))
    ∙ fold-roll-FullTyField _ _ ty_level ty_field_level (out-FullTyField field)

pub ruleset ty_levels = (bare_ty_field-kept, bare_ty-Record, bare_ty-AppliedAll, bare_ty-Tuple)
