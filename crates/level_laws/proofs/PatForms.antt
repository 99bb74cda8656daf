-- The levels of each form of a pattern, by those of its parts.
use Rattle.std.proofs.Common.{◌≡◌, suc, max, List, Option, Some, None, sym, ap, ◌∙◌}
use Rattle.sml_trees.specs.declared.name.At.{At}
use Rattle.sml_trees.specs.declared.name.Name.{Name}
use Rattle.sml_trees.specs.declared.full_ty.FullTy.{FullTy}
use Rattle.sml_trees.specs.declared.full_ty.OpLong.{OpLong}
use Rattle.sml_trees.specs.declared.full_ty.OpName.{OpName}
use Rattle.sml_trees.specs.declared.full_pat.Constant.{Constant}
use Rattle.sml_trees.specs.declared.full_pat.Fixity.{Fixity}
use Rattle.sml_trees.specs.declared.full_pat.FullPat.{FullPat}
use Rattle.sml_trees.specs.declared.full_pat.FullPat.TheOpen.{FullPat-F, FullPatItem-F, FullPatField-F}
use Rattle.sml_trees.specs.declared.full_pat.FullPat.TheFolds.{fold-roll-FullPat, fold-roll-FullPatItem, fold-roll-FullPatField}
use Rattle.sml_trees.specs.declared.full_pat.FullPat.TheVariants as p
use Rattle.sml_trees.specs.declared.full_pat.FullPatItem.{FullPatItem}
use Rattle.sml_trees.specs.declared.full_pat.FullPatItem.TheVariants as i
use Rattle.sml_trees.specs.declared.full_pat.FullPatField.{FullPatField}
use Rattle.sml_trees.specs.declared.full_pat.FullPatField.TheVariants as f
use Rattle.level_laws.specs.Levels.{all_levels, if_levels, ty_levels, pat_step, pat_item_step, pat_field_step, pat_levels, pat_item_levels, pat_field_levels}

pub pat-Wild : (at : At) → pat_levels (p.Wild at) ≡ 1
unfolding pat_levels pat_item_levels pat_field_levels
pat-Wild at =
    ap pat_levels (sym (p.rolls-Wild at))
    ∙ fold-roll-FullPat _ _ _ pat_step pat_field_step pat_item_step (FullPat-F.Wild at)

pub pat-Constant : (value : Constant) (at : At) → pat_levels (p.Constant value at) ≡ 1
unfolding pat_levels pat_item_levels pat_field_levels
pat-Constant value at =
    ap pat_levels (sym (p.rolls-Constant value at))
    ∙ fold-roll-FullPat _ _ _ pat_step pat_field_step pat_item_step (FullPat-F.Constant value at)

pub pat-Long : (id : OpLong) (at : At) → pat_levels (p.Long id at) ≡ 1
unfolding pat_levels pat_item_levels pat_field_levels
pat-Long id at =
    ap pat_levels (sym (p.rolls-Long id at))
    ∙ fold-roll-FullPat _ _ _ pat_step pat_field_step pat_item_step (FullPat-F.Long id at)

pub pat-Record : (fields : List FullPatField) (at : At)
    → pat_levels (p.Record fields at) ≡ suc (all_levels pat_field_levels fields)
unfolding pat_levels pat_item_levels pat_field_levels
pat-Record fields at =
    ap pat_levels (sym (p.rolls-Record fields at))
    ∙ fold-roll-FullPat _ _ _ pat_step pat_field_step pat_item_step (FullPat-F.Record fields at)

pub pat-Unit : (at : At) → pat_levels (p.Unit at) ≡ 1
unfolding pat_levels pat_item_levels pat_field_levels
pat-Unit at =
    ap pat_levels (sym (p.rolls-Unit at))
    ∙ fold-roll-FullPat _ _ _ pat_step pat_field_step pat_item_step (FullPat-F.Unit at)

pub pat-Tuple : (parts : List FullPat) (at : At) → pat_levels (p.Tuple parts at) ≡ suc (all_levels pat_levels parts)
unfolding pat_levels pat_item_levels pat_field_levels
pat-Tuple parts at =
    ap pat_levels (sym (p.rolls-Tuple parts at))
    ∙ fold-roll-FullPat _ _ _ pat_step pat_field_step pat_item_step (FullPat-F.Tuple parts at)

pub pat-List : (items : List FullPat) (at : At) → pat_levels (p.List items at) ≡ suc (all_levels pat_levels items)
unfolding pat_levels pat_item_levels pat_field_levels
pat-List items at =
    ap pat_levels (sym (p.rolls-List items at))
    ∙ fold-roll-FullPat _ _ _ pat_step pat_field_step pat_item_step (FullPat-F.List items at)

pub pat-Paren : (inner : FullPat) (at : At) → pat_levels (p.Paren inner at) ≡ suc (pat_levels inner)
unfolding pat_levels pat_item_levels pat_field_levels
pat-Paren inner at =
    ap pat_levels (sym (p.rolls-Paren inner at))
    ∙ fold-roll-FullPat _ _ _ pat_step pat_field_step pat_item_step (FullPat-F.Paren inner at)

pub pat-Run : (items : List FullPatItem) (at : At)
    → pat_levels (p.Run items at) ≡ suc (all_levels pat_item_levels items)
unfolding pat_levels pat_item_levels pat_field_levels
pat-Run items at =
    ap pat_levels (sym (p.rolls-Run items at))
    ∙ fold-roll-FullPat _ _ _ pat_step pat_field_step pat_item_step (FullPat-F.Run items at)

pub pat-Typed : (inner : FullPat) (ty : FullTy) (at : At)
    → pat_levels (p.Typed inner ty at) ≡ suc (max (pat_levels inner) (ty_levels ty))
unfolding pat_levels pat_item_levels pat_field_levels
pat-Typed inner ty at =
    ap pat_levels (sym (p.rolls-Typed inner ty at))
    ∙ fold-roll-FullPat _ _ _ pat_step pat_field_step pat_item_step (FullPat-F.Typed inner ty at)

pub pat-As : (called : OpName) (ty : Option FullTy) (inner : FullPat) (at : At)
    → pat_levels (p.As called ty inner at) ≡ suc (max (if_levels ty_levels ty) (pat_levels inner))
unfolding pat_levels pat_item_levels pat_field_levels
pat-As called ty inner at =
    ap pat_levels (sym (p.rolls-As called ty inner at))
    ∙ fold-roll-FullPat _ _ _ pat_step pat_field_step pat_item_step (FullPat-F.As called ty inner at)

pub item-Atom : (pat : FullPat) → pat_item_levels (i.Atom pat) ≡ pat_levels pat
unfolding pat_levels pat_item_levels pat_field_levels
item-Atom pat =
    ap pat_item_levels (sym (i.rolls-Atom pat))
    ∙ fold-roll-FullPatItem _ _ _ pat_step pat_field_step pat_item_step (FullPatItem-F.Atom pat)

pub item-Operator : (called : Name) (fixity : Fixity) → pat_item_levels (i.Operator called fixity) ≡ 0
unfolding pat_levels pat_item_levels pat_field_levels
item-Operator called fixity =
    ap pat_item_levels (sym (i.rolls-Operator called fixity))
    ∙ fold-roll-FullPatItem _ _ _ pat_step pat_field_step pat_item_step (FullPatItem-F.Operator called fixity)

pub field-Labelled : (label : Name) (pat : FullPat) → pat_field_levels (f.Labelled label pat) ≡ pat_levels pat
unfolding pat_levels pat_item_levels pat_field_levels
field-Labelled label pat =
    ap pat_field_levels (sym (f.rolls-Labelled label pat))
    ∙ fold-roll-FullPatField _ _ _ pat_step pat_field_step pat_item_step (FullPatField-F.Labelled label pat)

pub field-Named : (called : Name) (ty : Option FullTy) (pat : Option FullPat)
    → pat_field_levels (f.Named called ty pat) ≡ max (if_levels ty_levels ty) (if_levels pat_levels pat)
unfolding pat_levels pat_item_levels pat_field_levels
field-Named called ty None =
    ap pat_field_levels (sym (f.rolls-Named called ty None))
    ∙ fold-roll-FullPatField _ _ _ pat_step pat_field_step pat_item_step (FullPatField-F.Named called ty None)
field-Named called ty (Some pat) =
    ap pat_field_levels (sym (f.rolls-Named called ty (Some pat)))
    ∙ fold-roll-FullPatField _ _ _ pat_step pat_field_step pat_item_step (FullPatField-F.Named called ty (Some pat))
