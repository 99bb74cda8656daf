-- The height of one form of a type as it is written, by those of its parts.
use Rattle.std.proofs.Common.{◌≡◌, ℕ, suc, max, List, [], ◌∷◌, Option, Some, None, refl, sym, ap, ◌∙◌, map}
use Rattle.std.specs.Option.{option_map}
use Rattle.sml_trees.specs.declared.name.At.{At}
use Rattle.sml_trees.specs.declared.name.Name.{Name}
use Rattle.sml_trees.specs.declared.name.LongName.{LongName}
use Rattle.sml_trees.specs.declared.full_ty.FullTy.{FullTy}
use Rattle.sml_trees.specs.declared.full_ty.FullTy.TheVariants as full
use Rattle.sml_trees.specs.declared.full_ty.FullTy.TheOpen.{FullTy-F}
use Rattle.sml_trees.specs.declared.full_ty.FullTy.TheFolds.{fold-roll-FullTy}
use Rattle.sml_trees.specs.declared.full_ty.FullTyField.{FullTyField, out-FullTyField}
use Rattle.sml_trees.specs.declared.full_ty.FullTypBind.{FullTypBind}
use Rattle.sml_trees.specs.declared.full_ty.FullConBind.{FullConBind}
use Rattle.sml_trees.specs.declared.full_ty.FullDatBind.{FullDatBind}
use Rattle.sml_trees.specs.declared.full_ty.FullExBody.{FullExBody}
use Rattle.sml_trees.specs.declared.full_ty.FullExBody.TheVariants as ex
use Rattle.sml_trees.specs.declared.full_ty.FullExBind.{FullExBind}
use Rattle.sml_trees.specs.declared.full_ty.FullValDesc.{FullValDesc}
use Rattle.sml_trees.specs.declared.full_ty.OpLong.{OpLong}
use Rattle.sml_trees.specs.declared.ty.Ty.{Ty}
use Rattle.sml_trees.specs.declared.ty.Ty.TheOpen.{Ty-F, TyField-F}
use Rattle.sml_trees.specs.declared.ty.Ty.TheFolds.{fold-roll-Ty, fold-roll-TyField}
use Rattle.sml_trees.specs.declared.ty.Ty.TheVariants as ty
use Rattle.sml_trees.specs.declared.ty.TyField.{TyField, roll-TyField}
use Rattle.bare_forms.specs.Types.{bare_ty, bare_ty_field, bare_con_bind, ty_level, ty_field_level, label_of, ty_fields_from}
use Rattle.tree_heights.specs.Heights.{highest, ty_step, ty_field_step, ty_height, ty_field_height, con_height}
use Rattle.tree_heights.specs.FullHeights.{full_ty, full_ty_field, full_optional_ty, full_typ_bind, full_con, full_dat, full_ex_body, full_ex, full_val_desc}
use Rattle.bare_forms.proofs.Levels.{bare_ty-Record, bare_ty-AppliedAll, bare_ty-Tuple, bare_ty_field-kept}
use Rattle.tree_heights.proofs.Highest.{map-map, alone}

-- ---- bare types

ty_height-Var : (name : Name) (at : At) → ty_height (ty.Var name at) ≡ 1
ty_height-Var name at =
    ap ty_height (sym (ty.rolls-Var name at)) ∙ fold-roll-Ty _ _ ty_step ty_field_step (Ty-F.Var name at)

ty_height-Record : (fields : List TyField) (at : At) → ty_height (ty.Record fields at) ≡ suc (highest (map ty_field_height fields))
ty_height-Record fields at =
    ap ty_height (sym (ty.rolls-Record fields at)) ∙ fold-roll-Ty _ _ ty_step ty_field_step (Ty-F.Record fields at)

ty_height-Named : (args : List Ty) (long : LongName) (at : At) → ty_height (ty.Named args long at) ≡ suc (highest (map ty_height args))
ty_height-Named args long at =
    ap ty_height (sym (ty.rolls-Named args long at)) ∙ fold-roll-Ty _ _ ty_step ty_field_step (Ty-F.Named args long at)

ty_height-Arrow : (from to : Ty) (at : At) → ty_height (ty.Arrow from to at) ≡ suc (max (ty_height from) (ty_height to))
ty_height-Arrow from to at =
    ap ty_height (sym (ty.rolls-Arrow from to at)) ∙ fold-roll-Ty _ _ ty_step ty_field_step (Ty-F.Arrow from to at)

ty_field_height-kept : (label : Name) (part : Ty)
    → ty_field_height (roll-TyField (record { label = label; ty = part })) ≡ ty_height part
ty_field_height-kept label part =
    fold-roll-TyField _ _ ty_step ty_field_step (record { label = label; ty = part })

fields_height : (at : At) (n : ℕ) (parts : List Ty)
    → map ty_field_height (ty_fields_from at n parts) ≡ map ty_height parts
fields_height at n [] = refl
fields_height at n (part ∷ parts) =
    ap (λ here. here ∷ map ty_field_height (ty_fields_from at (suc n) parts)) (ty_field_height-kept (label_of at n) part)
    ∙ ap (λ rest. ty_height part ∷ rest) (fields_height at (suc n) parts)

-- ---- types as they are written

bare-Var : (name : Name) (at : At) → bare_ty (full.Var name at) ≡ ty.Var name at
bare-Var name at =
    ap bare_ty (sym (full.rolls-Var name at)) ∙ fold-roll-FullTy _ _ ty_level ty_field_level (FullTy-F.Var name at)

bare-Con : (long : LongName) (at : At) → bare_ty (full.Con long at) ≡ ty.Named [] long at
bare-Con long at =
    ap bare_ty (sym (full.rolls-Con long at)) ∙ fold-roll-FullTy _ _ ty_level ty_field_level (FullTy-F.Con long at)

bare-Applied : (arg : FullTy) (long : LongName) (at : At) → bare_ty (full.Applied arg long at) ≡ ty.Named (bare_ty arg ∷ []) long at
bare-Applied arg long at =
    ap bare_ty (sym (full.rolls-Applied arg long at)) ∙ fold-roll-FullTy _ _ ty_level ty_field_level (FullTy-F.Applied arg long at)

bare-Arrow : (from to : FullTy) (at : At) → bare_ty (full.Arrow from to at) ≡ ty.Arrow (bare_ty from) (bare_ty to) at
bare-Arrow from to at =
    ap bare_ty (sym (full.rolls-Arrow from to at)) ∙ fold-roll-FullTy _ _ ty_level ty_field_level (FullTy-F.Arrow from to at)

bare-Paren : (inner : FullTy) (at : At) → bare_ty (full.Paren inner at) ≡ bare_ty inner
bare-Paren inner at =
    ap bare_ty (sym (full.rolls-Paren inner at)) ∙ fold-roll-FullTy _ _ ty_level ty_field_level (FullTy-F.Paren inner at)

pub full_ty-Var : (name : Name) (at : At) → full_ty (full.Var name at) ≡ 1
unfolding full_ty
full_ty-Var name at = ap ty_height (bare-Var name at) ∙ ty_height-Var name at

pub full_ty-Record : (fields : List FullTyField) (at : At)
    → full_ty (full.Record fields at) ≡ suc (highest (map full_ty_field fields))
unfolding full_ty full_ty_field
full_ty-Record fields at =
    ap ty_height (bare_ty-Record fields at) ∙ ty_height-Record (map bare_ty_field fields) at
    ∙ ap (λ hs. suc (highest hs)) (map-map ty_field_height bare_ty_field fields)

pub full_ty-Con : (long : LongName) (at : At) → full_ty (full.Con long at) ≡ 1
unfolding full_ty
full_ty-Con long at = ap ty_height (bare-Con long at) ∙ ty_height-Named [] long at

pub full_ty-Applied : (arg : FullTy) (long : LongName) (at : At) → full_ty (full.Applied arg long at) ≡ suc (full_ty arg)
unfolding full_ty
full_ty-Applied arg long at = ap ty_height (bare-Applied arg long at) ∙ ty_height-Named (bare_ty arg ∷ []) long at ∙ ap suc (alone (ty_height (bare_ty arg)))

pub full_ty-AppliedAll : (args : List FullTy) (long : LongName) (at : At)
    → full_ty (full.AppliedAll args long at) ≡ suc (highest (map full_ty args))
unfolding full_ty
full_ty-AppliedAll args long at =
    ap ty_height (bare_ty-AppliedAll args long at) ∙ ty_height-Named (map bare_ty args) long at
    ∙ ap (λ hs. suc (highest hs)) (map-map ty_height bare_ty args)

pub full_ty-Tuple : (parts : List FullTy) (at : At)
    → full_ty (full.Tuple parts at) ≡ suc (highest (map full_ty parts))
unfolding full_ty
full_ty-Tuple parts at =
    ap ty_height (bare_ty-Tuple parts at) ∙ ty_height-Record (ty_fields_from at 1 (map bare_ty parts)) at
    ∙ ap (λ hs. suc (highest hs)) (fields_height at 1 (map bare_ty parts) ∙ map-map ty_height bare_ty parts)

pub full_ty-Arrow : (from to : FullTy) (at : At) → full_ty (full.Arrow from to at) ≡ suc (max (full_ty from) (full_ty to))
unfolding full_ty
full_ty-Arrow from to at = ap ty_height (bare-Arrow from to at) ∙ ty_height-Arrow (bare_ty from) (bare_ty to) at

pub full_ty-Paren : (inner : FullTy) (at : At) → full_ty (full.Paren inner at) ≡ full_ty inner
unfolding full_ty
full_ty-Paren inner at = ap ty_height (bare-Paren inner at)

pub full_ty_field-kept : (field : FullTyField) → full_ty_field field ≡ full_ty ((out-FullTyField field).ty)
unfolding full_ty full_ty_field
full_ty_field-kept field =
    ap ty_field_height (bare_ty_field-kept field)
    ∙ ty_field_height-kept (out-FullTyField field).label (bare_ty (out-FullTyField field).ty)

pub ruleset ty_forms = (
  full_ty-Var,
  full_ty-Record,
  full_ty-Con,
  full_ty-Applied,
  full_ty-AppliedAll,
  full_ty-Tuple,
  full_ty-Arrow,
  full_ty-Paren,
  full_ty_field-kept,
)

-- ---- bindings

pub optional-None : full_optional_ty None ≡ 0
unfolding full_optional_ty
optional-None = refl

pub optional-Some : (t : FullTy) → full_optional_ty (Some t) ≡ full_ty t
unfolding full_optional_ty full_ty
optional-Some t = refl

pub typ_bind-is : (bind : FullTypBind) → full_typ_bind bind ≡ full_ty bind.ty
unfolding full_typ_bind full_ty
typ_bind-is bind = refl

pub con-is : (con : FullConBind) → full_con con ≡ full_optional_ty con.arg
unfolding full_con full_optional_ty
con-is con = refl

pub dat-is : (bind : FullDatBind) → full_dat bind ≡ highest (map full_con bind.cons)
unfolding full_dat full_con
dat-is bind = ap highest (map-map con_height bare_con_bind bind.cons)

pub ex_body-Plain : full_ex_body ex.Plain ≡ 0
unfolding full_ex_body
ex_body-Plain = refl

pub ex_body-Of : (arg : FullTy) → full_ex_body (ex.Of arg) ≡ full_ty arg
unfolding full_ex_body full_ty
ex_body-Of arg = refl

pub ex_body-Copy : (long : OpLong) → full_ex_body (ex.Copy long) ≡ 0
unfolding full_ex_body
ex_body-Copy long = refl

pub ex-is : (bind : FullExBind) → full_ex bind ≡ full_ex_body bind.body
unfolding full_ex full_ex_body
ex-is bind = refl

pub val_desc-is : (desc : FullValDesc) → full_val_desc desc ≡ full_ty desc.ty
unfolding full_val_desc full_ty
val_desc-is desc = refl

pub ruleset bind_forms = (
  optional-None,
  optional-Some,
  typ_bind-is,
  con-is,
  dat-is,
  ex_body-Plain,
  ex_body-Of,
  ex_body-Copy,
  ex-is,
  val_desc-is,
)
