-- What a type, or a binding of names and types, becomes has names that fit, if its names and what its parts become have.
use Rattle.std.proofs.Common.{◌≡◌, ℕ, suc, ◌+◌, ◌<◌, ◌≤◌, ◌^◌, true, List, [], ◌∷◌, Option, Some, None, length, refl, sym, ap, ◌∙◌, subst, map, arith}
use Rattle.std.proofs.lemmas.List.{length-map}
use Rattle.std.specs.Option.{option_map}
use Rattle.sml_trees.specs.declared.name.At.{At}
use Rattle.sml_trees.specs.declared.name.Name.{Name}
use Rattle.sml_trees.specs.declared.name.LongName.{LongName}
use Rattle.sml_trees.specs.declared.full_ty.FullTy.{FullTy}
use Rattle.sml_trees.specs.declared.full_ty.FullTy.TheOpen.{FullTy-F}
use Rattle.sml_trees.specs.declared.full_ty.FullTy.TheFolds.{fold-roll-FullTy, fold-roll-FullTyField}
use Rattle.sml_trees.specs.declared.full_ty.FullTy.TheVariants as t
use Rattle.sml_trees.specs.declared.full_ty.FullTyField.{FullTyField, roll-FullTyField}
use Rattle.sml_trees.specs.declared.ty.Ty.{Ty}
use Rattle.sml_trees.specs.declared.ty.TyField.{TyField}
use Rattle.bare_forms.specs.Types.{label_of, ty_fields_from, ty_level, ty_field_level, bare_ty, bare_ty_field}
use Rattle.body_laws.proofs.Signatures.{Each, each-map}
use Rattle.fitting_names.specs.Names.{names_ty, names_ty_field, names_if_ty}
use Rattle.fitting_names.proofs.Texts.{IsFew, decimal_fits}
use Rattle.fitting_names.proofs.Nodes.{FitName, FitLong, ty-Var, ty-Record, ty-Named, ty-Arrow, good-ty_field}

abbrev pub FitTy : Ty → Type 0
FitTy ty = names_ty ty ≡ true

abbrev FitField : TyField → Type 0
FitField field = names_ty_field field ≡ true

pub label_fits : (at : At) (n : ℕ) → n < 2 ^ 64 → FitName (label_of at n)
label_fits at n low = decimal_fits n low

fields_fit : (at : At) (n : ℕ) (parts : List Ty) → n + length parts ≤ 2 ^ 64 → Each FitTy parts
    → Each FitField (ty_fields_from at n parts)
fields_fit at n [] low all = tt
fields_fit at n (part ∷ parts) low all = (
  good-ty_field (label_of at n) part (label_fits at n (omega (arith, low))) all.0,
  fields_fit at (suc n) parts (omega (arith, low)) all.1,
)

-- ---- each form

abbrev pub TyIs : FullTy → Type 0
TyIs full = FitTy (bare_ty full)

abbrev pub TyFieldIs : FullTyField → Type 0
TyFieldIs full = FitField (bare_ty_field full)

ty_by : {one made : Ty} → one ≡ made → FitTy made → FitTy one
ty_by same is = subst FitTy (sym same) is

pub full-Var : (name : Name) (at : At) → FitName name → TyIs (t.Var name at)
full-Var name at is =
    ty_by (ap bare_ty (sym (t.rolls-Var name at)) ∙ fold-roll-FullTy _ _ ty_level ty_field_level (FullTy-F.Var name at))
    (ty-Var name at is)

pub full-Record : (fields : List FullTyField) (at : At) → Each TyFieldIs fields → TyIs (t.Record fields at)
full-Record fields at all =
    ty_by (ap bare_ty (sym (t.rolls-Record fields at))
    ∙ fold-roll-FullTy _ _ ty_level ty_field_level (FullTy-F.Record fields at))
    (ty-Record (map bare_ty_field fields) at (each-map FitField bare_ty_field fields all))

pub full-Con : (long : LongName) (at : At) → FitLong long → TyIs (t.Con long at)
full-Con long at is =
    ty_by (ap bare_ty (sym (t.rolls-Con long at)) ∙ fold-roll-FullTy _ _ ty_level ty_field_level (FullTy-F.Con long at))
    (ty-Named [] long at tt is)

pub full-Applied : (arg : FullTy) (long : LongName) (at : At) → TyIs arg → FitLong long → TyIs (t.Applied arg long at)
full-Applied arg long at first second =
    ty_by (ap bare_ty (sym (t.rolls-Applied arg long at))
    ∙ fold-roll-FullTy _ _ ty_level ty_field_level (FullTy-F.Applied arg long at))
    (ty-Named (bare_ty arg ∷ []) long at (first, tt) second)

pub full-AppliedAll : (args : List FullTy) (long : LongName) (at : At) → Each TyIs args → FitLong long
    → TyIs (t.AppliedAll args long at)
full-AppliedAll args long at all second =
    ty_by (ap bare_ty (sym (t.rolls-AppliedAll args long at))
    ∙ fold-roll-FullTy _ _ ty_level ty_field_level (FullTy-F.AppliedAll args long at))
    (ty-Named (map bare_ty args) long at (each-map FitTy bare_ty args all) second)

pub full-Tuple : (parts : List FullTy) (at : At) → IsFew parts → Each TyIs parts → TyIs (t.Tuple parts at)
full-Tuple parts at few all =
    let same : length (map bare_ty parts) ≡ length parts = length-map parts bare_ty in
    ty_by (ap bare_ty (sym (t.rolls-Tuple parts at))
    ∙ fold-roll-FullTy _ _ ty_level ty_field_level (FullTy-F.Tuple parts at))
    (ty-Record (ty_fields_from at 1 (map bare_ty parts)) at
    (fields_fit at 1 (map bare_ty parts) (omega (arith, same, few)) (each-map FitTy bare_ty parts all)))

pub full-Arrow : (from to : FullTy) (at : At) → TyIs from → TyIs to → TyIs (t.Arrow from to at)
full-Arrow from to at first second =
    ty_by (ap bare_ty (sym (t.rolls-Arrow from to at))
    ∙ fold-roll-FullTy _ _ ty_level ty_field_level (FullTy-F.Arrow from to at))
    (ty-Arrow (bare_ty from) (bare_ty to) at first second)

pub full-Paren : (inner : FullTy) (at : At) → TyIs inner → TyIs (t.Paren inner at)
full-Paren inner at is =
    ty_by (ap bare_ty (sym (t.rolls-Paren inner at))
    ∙ fold-roll-FullTy _ _ ty_level ty_field_level (FullTy-F.Paren inner at)) is

pub full_field-is : (label : Name) (inner : FullTy) → FitName label → TyIs inner
    → TyFieldIs (roll-FullTyField (record { label = label; ty = inner }))
full_field-is label inner first second =
    subst FitField (sym (fold-roll-FullTyField _ _ ty_level ty_field_level (record { label = label; ty = inner })))
    (good-ty_field label (bare_ty inner) first second)

-- a type that may be absent
abbrev pub IfTy : Option FullTy → Type 0
IfTy None = Unit {0}
IfTy (Some ty) = TyIs ty

pub if-is : (given : Option FullTy) → IfTy given → names_if_ty (option_map bare_ty given) ≡ true
if-is None is = refl
if-is (Some ty) is = is
