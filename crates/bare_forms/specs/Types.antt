-- Types without their derived forms, and the bindings that are made of names and types alone. A form that was written
-- so already stays as it is, and its place with it.
use Rattle.std.specs.Prelude.{ℕ, suc, List, [], ◌∷◌, map}
use Rattle.std.specs.Option.{option_map}
use Rattle.std.specs.Fmt.{decimal}
use Rattle.sml_trees.specs.declared.name.At.{At}
use Rattle.sml_trees.specs.declared.name.Name.{Name}
use Rattle.sml_trees.specs.declared.full_ty.FullTy.{FullTy}
use Rattle.sml_trees.specs.declared.full_ty.FullTy.TheOpen.{FullTy-F, FullTyField-F}
use Rattle.sml_trees.specs.declared.full_ty.FullTy.TheFolds.{fold-FullTy, fold-FullTyField}
use Rattle.sml_trees.specs.declared.full_ty.FullTyField.{FullTyField}
use Rattle.sml_trees.specs.declared.full_ty.FullTypBind.{FullTypBind}
use Rattle.sml_trees.specs.declared.full_ty.FullConBind.{FullConBind}
use Rattle.sml_trees.specs.declared.full_ty.FullDatBind.{FullDatBind}
use Rattle.sml_trees.specs.declared.full_ty.FullExBody.{FullExBody}
use Rattle.sml_trees.specs.declared.full_ty.FullExBody.TheVariants as full
use Rattle.sml_trees.specs.declared.full_ty.FullExBind.{FullExBind}
use Rattle.sml_trees.specs.declared.full_ty.FullValDesc.{FullValDesc}
use Rattle.sml_trees.specs.declared.full_ty.FullTypDesc.{FullTypDesc}
use Rattle.sml_trees.specs.declared.ty.Ty.{Ty}
use Rattle.sml_trees.specs.declared.ty.Ty.TheVariants as ty
use Rattle.sml_trees.specs.declared.ty.TyField.{TyField, roll-TyField}
use Rattle.sml_trees.specs.declared.ty.TypBind.{TypBind}
use Rattle.sml_trees.specs.declared.ty.ConBind.{ConBind}
use Rattle.sml_trees.specs.declared.ty.DatBind.{DatBind}
use Rattle.sml_trees.specs.declared.ty.ExBody.{ExBody}
use Rattle.sml_trees.specs.declared.ty.ExBody.TheVariants as bare
use Rattle.sml_trees.specs.declared.ty.ExBind.{ExBind}
use Rattle.sml_trees.specs.declared.ty.ValDesc.{ValDesc}
use Rattle.sml_trees.specs.declared.ty.TypDesc.{TypDesc}

-- the label of a tuple's part, which is its number from 1, and stands where the tuple stands
abbrev pub label_of : At → ℕ → Name
label_of at number = record { text = decimal number; line = at.line; col = at.col }

-- the fields of a tuple type whose first part has this number
abbrev pub ty_fields_from : At → ℕ → List Ty → List TyField
ty_fields_from at number [] = []
ty_fields_from at number (part ∷ parts) =
    roll-TyField (record { label = label_of at number; ty = part }) ∷ ty_fields_from at (suc number) parts

-- The Definition, Appendix A, types: `ty1 * .. * tyn` is `{1 : ty1, .., n : tyn}`. Parentheses vanish.
abbrev pub ty_level : FullTy-F Ty TyField → Ty
ty_level (FullTy-F.Var name at) = ty.Var name at
ty_level (FullTy-F.Record fields at) = ty.Record fields at
ty_level (FullTy-F.Con long at) = ty.Named [] long at
ty_level (FullTy-F.Applied arg long at) = ty.Named (arg ∷ []) long at
ty_level (FullTy-F.AppliedAll args long at) = ty.Named args long at
ty_level (FullTy-F.Tuple parts at) = ty.Record (ty_fields_from at 1 parts) at
ty_level (FullTy-F.Arrow from to at) = ty.Arrow from to at
ty_level (FullTy-F.Paren inner at) = inner

abbrev pub ty_field_level : FullTyField-F Ty TyField → TyField
ty_field_level field = roll-TyField (record { label = field.label; ty = field.ty })

-- the bare type of a type as it is written
abbrev pub bare_ty : FullTy → Ty
bare_ty = fold-FullTy Ty TyField ty_level ty_field_level

-- .. and of a field of a record type
abbrev pub bare_ty_field : FullTyField → TyField
bare_ty_field = fold-FullTyField Ty TyField ty_level ty_field_level

-- ---- bindings of names and types, which lose their `op`

abbrev pub bare_typ_bind : FullTypBind → TypBind
bare_typ_bind bind = record { tyvars = bind.tyvars; name = bind.name; ty = bare_ty bind.ty }

abbrev pub bare_con_bind : FullConBind → ConBind
bare_con_bind con = record { name = con.name.name; arg = option_map bare_ty con.arg }

abbrev pub bare_dat_bind : FullDatBind → DatBind
bare_dat_bind bind = record { tyvars = bind.tyvars; name = bind.name; cons = map bare_con_bind bind.cons }

abbrev pub bare_ex_body : FullExBody → ExBody
bare_ex_body full.Plain = bare.Plain
bare_ex_body (full.Of arg) = bare.Of (bare_ty arg)
bare_ex_body (full.Copy long) = bare.Copy long.long

abbrev pub bare_ex_bind : FullExBind → ExBind
bare_ex_bind bind = record { name = bind.name.name; body = bare_ex_body bind.body }

abbrev pub bare_val_desc : FullValDesc → ValDesc
bare_val_desc desc = record { name = desc.name; ty = bare_ty desc.ty }

-- a type of a specification, without what it stands for
abbrev pub plain_desc : FullTypDesc → TypDesc
plain_desc desc = record { tyvars = desc.tyvars; name = desc.name }
