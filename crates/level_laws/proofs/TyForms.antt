-- The levels of each form of a type, by those of its parts.
use Rattle.std.proofs.Common.{◌≡◌, suc, max, List, sym, ap, ◌∙◌}
use Rattle.sml_trees.specs.declared.name.At.{At}
use Rattle.sml_trees.specs.declared.name.Name.{Name}
use Rattle.sml_trees.specs.declared.name.LongName.{LongName}
use Rattle.sml_trees.specs.declared.full_ty.FullTy.{FullTy}
use Rattle.sml_trees.specs.declared.full_ty.FullTy.TheOpen.{FullTy-F}
use Rattle.sml_trees.specs.declared.full_ty.FullTy.TheFolds.{fold-roll-FullTy, fold-roll-FullTyField}
use Rattle.sml_trees.specs.declared.full_ty.FullTy.TheVariants as t
use Rattle.sml_trees.specs.declared.full_ty.FullTyField.{FullTyField, roll-FullTyField}
use Rattle.level_laws.specs.Levels.{all_levels, ty_step, ty_field_step, ty_levels, ty_field_levels}

pub ty-Var : (name : Name) (at : At) → ty_levels (t.Var name at) ≡ 1
unfolding ty_levels ty_field_levels
ty-Var name at =
    ap ty_levels (sym (t.rolls-Var name at)) ∙ fold-roll-FullTy _ _ ty_step ty_field_step (FullTy-F.Var name at)

pub ty-Record : (fields : List FullTyField) (at : At)
    → ty_levels (t.Record fields at) ≡ suc (all_levels ty_field_levels fields)
unfolding ty_levels ty_field_levels
ty-Record fields at =
    ap ty_levels (sym (t.rolls-Record fields at))
    ∙ fold-roll-FullTy _ _ ty_step ty_field_step (FullTy-F.Record fields at)

pub ty-Con : (long : LongName) (at : At) → ty_levels (t.Con long at) ≡ 1
unfolding ty_levels ty_field_levels
ty-Con long at =
    ap ty_levels (sym (t.rolls-Con long at)) ∙ fold-roll-FullTy _ _ ty_step ty_field_step (FullTy-F.Con long at)

pub ty-Applied : (arg : FullTy) (long : LongName) (at : At) → ty_levels (t.Applied arg long at) ≡ suc (ty_levels arg)
unfolding ty_levels ty_field_levels
ty-Applied arg long at =
    ap ty_levels (sym (t.rolls-Applied arg long at))
    ∙ fold-roll-FullTy _ _ ty_step ty_field_step (FullTy-F.Applied arg long at)

pub ty-AppliedAll : (args : List FullTy) (long : LongName) (at : At)
    → ty_levels (t.AppliedAll args long at) ≡ suc (all_levels ty_levels args)
unfolding ty_levels ty_field_levels
ty-AppliedAll args long at =
    ap ty_levels (sym (t.rolls-AppliedAll args long at))
    ∙ fold-roll-FullTy _ _ ty_step ty_field_step (FullTy-F.AppliedAll args long at)

pub ty-Tuple : (parts : List FullTy) (at : At) → ty_levels (t.Tuple parts at) ≡ suc (all_levels ty_levels parts)
unfolding ty_levels ty_field_levels
ty-Tuple parts at =
    ap ty_levels (sym (t.rolls-Tuple parts at)) ∙ fold-roll-FullTy _ _ ty_step ty_field_step (FullTy-F.Tuple parts at)

pub ty-Arrow : (from to : FullTy) (at : At) → ty_levels (t.Arrow from to at) ≡ suc (max (ty_levels from) (ty_levels to))
unfolding ty_levels ty_field_levels
ty-Arrow from to at =
    ap ty_levels (sym (t.rolls-Arrow from to at))
    ∙ fold-roll-FullTy _ _ ty_step ty_field_step (FullTy-F.Arrow from to at)

pub ty-Paren : (inner : FullTy) (at : At) → ty_levels (t.Paren inner at) ≡ suc (ty_levels inner)
unfolding ty_levels ty_field_levels
ty-Paren inner at =
    ap ty_levels (sym (t.rolls-Paren inner at)) ∙ fold-roll-FullTy _ _ ty_step ty_field_step (FullTy-F.Paren inner at)

pub ty-field : (called : Name) (ty : FullTy)
    → ty_field_levels (roll-FullTyField (record { label = called; ty = ty })) ≡ ty_levels ty
unfolding ty_levels ty_field_levels
ty-field called ty = fold-roll-FullTyField _ _ ty_step ty_field_step (record { label = called; ty = ty })
