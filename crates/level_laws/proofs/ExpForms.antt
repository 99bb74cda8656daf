-- The levels of each form of an expression or a declaration, by those of its parts.
use Rattle.std.proofs.Common.{◌≡◌, ℕ, suc, max, List, Option, sym, ap, ◌∙◌}
use Rattle.sml_trees.specs.declared.name.At.{At}
use Rattle.sml_trees.specs.declared.name.Name.{Name}
use Rattle.sml_trees.specs.declared.name.LongName.{LongName}
use Rattle.sml_trees.specs.declared.full_ty.FullTy.{FullTy}
use Rattle.sml_trees.specs.declared.full_ty.FullTypBind.{FullTypBind}
use Rattle.sml_trees.specs.declared.full_ty.FullDatBind.{FullDatBind}
use Rattle.sml_trees.specs.declared.full_ty.FullExBind.{FullExBind}
use Rattle.sml_trees.specs.declared.full_ty.OpLong.{OpLong}
use Rattle.sml_trees.specs.declared.full_pat.Constant.{Constant}
use Rattle.sml_trees.specs.declared.full_pat.Fixity.{Fixity}
use Rattle.sml_trees.specs.declared.full_pat.FullPat.{FullPat}
use Rattle.sml_trees.specs.declared.full_exp.FullHead.{FullHead}
use Rattle.sml_trees.specs.declared.full_exp.FullDec.{FullDec}
use Rattle.sml_trees.specs.declared.full_exp.FullDec.TheOpen.{FullDec-F, FullExp-F, FullExpItem-F}
use Rattle.sml_trees.specs.declared.full_exp.FullDec.TheFolds.{fold-roll-FullDec, fold-roll-FullExp, fold-roll-FullExpItem, fold-roll-FullClause, fold-roll-FullExpField, fold-roll-FullFunBind, fold-roll-FullRule, fold-roll-FullValBind}
use Rattle.sml_trees.specs.declared.full_exp.FullDec.TheVariants as d
use Rattle.sml_trees.specs.declared.full_exp.FullExp.{FullExp}
use Rattle.sml_trees.specs.declared.full_exp.FullExp.TheVariants as e
use Rattle.sml_trees.specs.declared.full_exp.FullExpItem.{FullExpItem}
use Rattle.sml_trees.specs.declared.full_exp.FullExpItem.TheVariants as item
use Rattle.sml_trees.specs.declared.full_exp.FullClause.{FullClause, roll-FullClause}
use Rattle.sml_trees.specs.declared.full_exp.FullExpField.{FullExpField, roll-FullExpField}
use Rattle.sml_trees.specs.declared.full_exp.FullFunBind.{FullFunBind, roll-FullFunBind}
use Rattle.sml_trees.specs.declared.full_exp.FullRule.{FullRule, roll-FullRule}
use Rattle.sml_trees.specs.declared.full_exp.FullValBind.{FullValBind, roll-FullValBind}
use Rattle.level_laws.specs.Levels.{all_levels, if_levels, ty_levels, pat_levels, typ_bind_levels, dat_bind_levels, ex_bind_levels, head_levels, dec_step, exp_step, exp_item_step, clause_step, exp_field_step, fun_bind_step, rule_step, val_bind_step, dec_levels, exp_levels, exp_item_levels, clause_levels, exp_field_levels, fun_bind_levels, rule_levels, val_bind_levels}

pub dec-Val : (tyvars : List Name) (binds : List FullValBind) (at : At)
    → dec_levels (d.Val tyvars binds at) ≡ suc (all_levels val_bind_levels binds)
unfolding dec_levels exp_levels exp_item_levels clause_levels exp_field_levels fun_bind_levels rule_levels val_bind_levels
dec-Val tyvars binds at =
    ap dec_levels (sym (d.rolls-Val tyvars binds at))
    ∙ fold-roll-FullDec _ _ _ _ _ _ _ _ dec_step exp_step exp_item_step clause_step
    exp_field_step fun_bind_step rule_step val_bind_step (FullDec-F.Val tyvars binds at)

pub dec-Fun : (tyvars : List Name) (binds : List FullFunBind) (at : At)
    → dec_levels (d.Fun tyvars binds at) ≡ suc (all_levels fun_bind_levels binds)
unfolding dec_levels exp_levels exp_item_levels clause_levels exp_field_levels fun_bind_levels rule_levels val_bind_levels
dec-Fun tyvars binds at =
    ap dec_levels (sym (d.rolls-Fun tyvars binds at))
    ∙ fold-roll-FullDec _ _ _ _ _ _ _ _ dec_step exp_step exp_item_step clause_step
    exp_field_step fun_bind_step rule_step val_bind_step (FullDec-F.Fun tyvars binds at)

pub dec-Types : (binds : List FullTypBind) (at : At)
    → dec_levels (d.Types binds at) ≡ suc (all_levels typ_bind_levels binds)
unfolding dec_levels exp_levels exp_item_levels clause_levels exp_field_levels fun_bind_levels rule_levels val_bind_levels
dec-Types binds at =
    ap dec_levels (sym (d.rolls-Types binds at))
    ∙ fold-roll-FullDec _ _ _ _ _ _ _ _ dec_step exp_step exp_item_step clause_step
    exp_field_step fun_bind_step rule_step val_bind_step (FullDec-F.Types binds at)

pub dec-Datatypes : (binds : List FullDatBind) (at : At)
    → dec_levels (d.Datatypes binds at) ≡ suc (all_levels dat_bind_levels binds)
unfolding dec_levels exp_levels exp_item_levels clause_levels exp_field_levels fun_bind_levels rule_levels val_bind_levels
dec-Datatypes binds at =
    ap dec_levels (sym (d.rolls-Datatypes binds at))
    ∙ fold-roll-FullDec _ _ _ _ _ _ _ _ dec_step exp_step exp_item_step clause_step
    exp_field_step fun_bind_step rule_step val_bind_step (FullDec-F.Datatypes binds at)

pub dec-Replication : (called : Name) (long : LongName) (at : At) → dec_levels (d.Replication called long at) ≡ 1
unfolding dec_levels exp_levels exp_item_levels clause_levels exp_field_levels fun_bind_levels rule_levels val_bind_levels
dec-Replication called long at =
    ap dec_levels (sym (d.rolls-Replication called long at))
    ∙ fold-roll-FullDec _ _ _ _ _ _ _ _ dec_step exp_step exp_item_step clause_step
    exp_field_step fun_bind_step rule_step val_bind_step (FullDec-F.Replication called long at)

pub dec-Exceptions : (binds : List FullExBind) (at : At)
    → dec_levels (d.Exceptions binds at) ≡ suc (all_levels ex_bind_levels binds)
unfolding dec_levels exp_levels exp_item_levels clause_levels exp_field_levels fun_bind_levels rule_levels val_bind_levels
dec-Exceptions binds at =
    ap dec_levels (sym (d.rolls-Exceptions binds at))
    ∙ fold-roll-FullDec _ _ _ _ _ _ _ _ dec_step exp_step exp_item_step clause_step
    exp_field_step fun_bind_step rule_step val_bind_step (FullDec-F.Exceptions binds at)

pub dec-Local : (hidden decs : List FullDec) (at : At)
    → dec_levels (d.Local hidden decs at) ≡ suc (max (all_levels dec_levels hidden) (all_levels dec_levels decs))
unfolding dec_levels exp_levels exp_item_levels clause_levels exp_field_levels fun_bind_levels rule_levels val_bind_levels
dec-Local hidden decs at =
    ap dec_levels (sym (d.rolls-Local hidden decs at))
    ∙ fold-roll-FullDec _ _ _ _ _ _ _ _ dec_step exp_step exp_item_step clause_step
    exp_field_step fun_bind_step rule_step val_bind_step (FullDec-F.Local hidden decs at)

pub dec-Open : (longs : List LongName) (at : At) → dec_levels (d.Open longs at) ≡ 1
unfolding dec_levels exp_levels exp_item_levels clause_levels exp_field_levels fun_bind_levels rule_levels val_bind_levels
dec-Open longs at =
    ap dec_levels (sym (d.rolls-Open longs at))
    ∙ fold-roll-FullDec _ _ _ _ _ _ _ _ dec_step exp_step exp_item_step clause_step
    exp_field_step fun_bind_step rule_step val_bind_step (FullDec-F.Open longs at)

pub dec-Infix : (strength : Option ℕ) (names : List Name) (at : At) → dec_levels (d.Infix strength names at) ≡ 1
unfolding dec_levels exp_levels exp_item_levels clause_levels exp_field_levels fun_bind_levels rule_levels val_bind_levels
dec-Infix strength names at =
    ap dec_levels (sym (d.rolls-Infix strength names at))
    ∙ fold-roll-FullDec _ _ _ _ _ _ _ _ dec_step exp_step exp_item_step clause_step
    exp_field_step fun_bind_step rule_step val_bind_step (FullDec-F.Infix strength names at)

pub dec-Infixr : (strength : Option ℕ) (names : List Name) (at : At) → dec_levels (d.Infixr strength names at) ≡ 1
unfolding dec_levels exp_levels exp_item_levels clause_levels exp_field_levels fun_bind_levels rule_levels val_bind_levels
dec-Infixr strength names at =
    ap dec_levels (sym (d.rolls-Infixr strength names at))
    ∙ fold-roll-FullDec _ _ _ _ _ _ _ _ dec_step exp_step exp_item_step clause_step
    exp_field_step fun_bind_step rule_step val_bind_step (FullDec-F.Infixr strength names at)

pub dec-Nonfix : (names : List Name) (at : At) → dec_levels (d.Nonfix names at) ≡ 1
unfolding dec_levels exp_levels exp_item_levels clause_levels exp_field_levels fun_bind_levels rule_levels val_bind_levels
dec-Nonfix names at =
    ap dec_levels (sym (d.rolls-Nonfix names at))
    ∙ fold-roll-FullDec _ _ _ _ _ _ _ _ dec_step exp_step exp_item_step clause_step
    exp_field_step fun_bind_step rule_step val_bind_step (FullDec-F.Nonfix names at)

pub exp-Constant : (value : Constant) (at : At) → exp_levels (e.Constant value at) ≡ 1
unfolding dec_levels exp_levels exp_item_levels clause_levels exp_field_levels fun_bind_levels rule_levels val_bind_levels
exp-Constant value at =
    ap exp_levels (sym (e.rolls-Constant value at))
    ∙ fold-roll-FullExp _ _ _ _ _ _ _ _ dec_step exp_step exp_item_step clause_step
    exp_field_step fun_bind_step rule_step val_bind_step (FullExp-F.Constant value at)

pub exp-Long : (id : OpLong) (at : At) → exp_levels (e.Long id at) ≡ 1
unfolding dec_levels exp_levels exp_item_levels clause_levels exp_field_levels fun_bind_levels rule_levels val_bind_levels
exp-Long id at =
    ap exp_levels (sym (e.rolls-Long id at))
    ∙ fold-roll-FullExp _ _ _ _ _ _ _ _ dec_step exp_step exp_item_step clause_step
    exp_field_step fun_bind_step rule_step val_bind_step (FullExp-F.Long id at)

pub exp-Record : (fields : List FullExpField) (at : At)
    → exp_levels (e.Record fields at) ≡ suc (all_levels exp_field_levels fields)
unfolding dec_levels exp_levels exp_item_levels clause_levels exp_field_levels fun_bind_levels rule_levels val_bind_levels
exp-Record fields at =
    ap exp_levels (sym (e.rolls-Record fields at))
    ∙ fold-roll-FullExp _ _ _ _ _ _ _ _ dec_step exp_step exp_item_step clause_step
    exp_field_step fun_bind_step rule_step val_bind_step (FullExp-F.Record fields at)

pub exp-Unit : (at : At) → exp_levels (e.Unit at) ≡ 1
unfolding dec_levels exp_levels exp_item_levels clause_levels exp_field_levels fun_bind_levels rule_levels val_bind_levels
exp-Unit at =
    ap exp_levels (sym (e.rolls-Unit at))
    ∙ fold-roll-FullExp _ _ _ _ _ _ _ _ dec_step exp_step exp_item_step clause_step
    exp_field_step fun_bind_step rule_step val_bind_step (FullExp-F.Unit at)

pub exp-Tuple : (parts : List FullExp) (at : At) → exp_levels (e.Tuple parts at) ≡ suc (all_levels exp_levels parts)
unfolding dec_levels exp_levels exp_item_levels clause_levels exp_field_levels fun_bind_levels rule_levels val_bind_levels
exp-Tuple parts at =
    ap exp_levels (sym (e.rolls-Tuple parts at))
    ∙ fold-roll-FullExp _ _ _ _ _ _ _ _ dec_step exp_step exp_item_step clause_step
    exp_field_step fun_bind_step rule_step val_bind_step (FullExp-F.Tuple parts at)

pub exp-Sequence : (exps : List FullExp) (at : At) → exp_levels (e.Sequence exps at) ≡ suc (all_levels exp_levels exps)
unfolding dec_levels exp_levels exp_item_levels clause_levels exp_field_levels fun_bind_levels rule_levels val_bind_levels
exp-Sequence exps at =
    ap exp_levels (sym (e.rolls-Sequence exps at))
    ∙ fold-roll-FullExp _ _ _ _ _ _ _ _ dec_step exp_step exp_item_step clause_step
    exp_field_step fun_bind_step rule_step val_bind_step (FullExp-F.Sequence exps at)

pub exp-List : (items : List FullExp) (at : At) → exp_levels (e.List items at) ≡ suc (all_levels exp_levels items)
unfolding dec_levels exp_levels exp_item_levels clause_levels exp_field_levels fun_bind_levels rule_levels val_bind_levels
exp-List items at =
    ap exp_levels (sym (e.rolls-List items at))
    ∙ fold-roll-FullExp _ _ _ _ _ _ _ _ dec_step exp_step exp_item_step clause_step
    exp_field_step fun_bind_step rule_step val_bind_step (FullExp-F.List items at)

pub exp-Paren : (inner : FullExp) (at : At) → exp_levels (e.Paren inner at) ≡ suc (exp_levels inner)
unfolding dec_levels exp_levels exp_item_levels clause_levels exp_field_levels fun_bind_levels rule_levels val_bind_levels
exp-Paren inner at =
    ap exp_levels (sym (e.rolls-Paren inner at))
    ∙ fold-roll-FullExp _ _ _ _ _ _ _ _ dec_step exp_step exp_item_step clause_step
    exp_field_step fun_bind_step rule_step val_bind_step (FullExp-F.Paren inner at)

pub exp-Let : (decs : List FullDec) (exps : List FullExp) (at : At)
    → exp_levels (e.Let decs exps at) ≡ suc (max (all_levels dec_levels decs) (all_levels exp_levels exps))
unfolding dec_levels exp_levels exp_item_levels clause_levels exp_field_levels fun_bind_levels rule_levels val_bind_levels
exp-Let decs exps at =
    ap exp_levels (sym (e.rolls-Let decs exps at))
    ∙ fold-roll-FullExp _ _ _ _ _ _ _ _ dec_step exp_step exp_item_step clause_step
    exp_field_step fun_bind_step rule_step val_bind_step (FullExp-F.Let decs exps at)

pub exp-Run : (items : List FullExpItem) (at : At)
    → exp_levels (e.Run items at) ≡ suc (all_levels exp_item_levels items)
unfolding dec_levels exp_levels exp_item_levels clause_levels exp_field_levels fun_bind_levels rule_levels val_bind_levels
exp-Run items at =
    ap exp_levels (sym (e.rolls-Run items at))
    ∙ fold-roll-FullExp _ _ _ _ _ _ _ _ dec_step exp_step exp_item_step clause_step
    exp_field_step fun_bind_step rule_step val_bind_step (FullExp-F.Run items at)

pub exp-Typed : (inner : FullExp) (ty : FullTy) (at : At)
    → exp_levels (e.Typed inner ty at) ≡ suc (max (exp_levels inner) (ty_levels ty))
unfolding dec_levels exp_levels exp_item_levels clause_levels exp_field_levels fun_bind_levels rule_levels val_bind_levels
exp-Typed inner ty at =
    ap exp_levels (sym (e.rolls-Typed inner ty at))
    ∙ fold-roll-FullExp _ _ _ _ _ _ _ _ dec_step exp_step exp_item_step clause_step
    exp_field_step fun_bind_step rule_step val_bind_step (FullExp-F.Typed inner ty at)

pub exp-AndAlso : (left right : FullExp) (at : At)
    → exp_levels (e.AndAlso left right at) ≡ suc (max (exp_levels left) (exp_levels right))
unfolding dec_levels exp_levels exp_item_levels clause_levels exp_field_levels fun_bind_levels rule_levels val_bind_levels
exp-AndAlso left right at =
    ap exp_levels (sym (e.rolls-AndAlso left right at))
    ∙ fold-roll-FullExp _ _ _ _ _ _ _ _ dec_step exp_step exp_item_step clause_step
    exp_field_step fun_bind_step rule_step val_bind_step (FullExp-F.AndAlso left right at)

pub exp-OrElse : (left right : FullExp) (at : At)
    → exp_levels (e.OrElse left right at) ≡ suc (max (exp_levels left) (exp_levels right))
unfolding dec_levels exp_levels exp_item_levels clause_levels exp_field_levels fun_bind_levels rule_levels val_bind_levels
exp-OrElse left right at =
    ap exp_levels (sym (e.rolls-OrElse left right at))
    ∙ fold-roll-FullExp _ _ _ _ _ _ _ _ dec_step exp_step exp_item_step clause_step
    exp_field_step fun_bind_step rule_step val_bind_step (FullExp-F.OrElse left right at)

pub exp-Handle : (inner : FullExp) (rules : List FullRule) (at : At)
    → exp_levels (e.Handle inner rules at) ≡ suc (max (exp_levels inner) (all_levels rule_levels rules))
unfolding dec_levels exp_levels exp_item_levels clause_levels exp_field_levels fun_bind_levels rule_levels val_bind_levels
exp-Handle inner rules at =
    ap exp_levels (sym (e.rolls-Handle inner rules at))
    ∙ fold-roll-FullExp _ _ _ _ _ _ _ _ dec_step exp_step exp_item_step clause_step
    exp_field_step fun_bind_step rule_step val_bind_step (FullExp-F.Handle inner rules at)

pub exp-Raise : (inner : FullExp) (at : At) → exp_levels (e.Raise inner at) ≡ suc (exp_levels inner)
unfolding dec_levels exp_levels exp_item_levels clause_levels exp_field_levels fun_bind_levels rule_levels val_bind_levels
exp-Raise inner at =
    ap exp_levels (sym (e.rolls-Raise inner at))
    ∙ fold-roll-FullExp _ _ _ _ _ _ _ _ dec_step exp_step exp_item_step clause_step
    exp_field_step fun_bind_step rule_step val_bind_step (FullExp-F.Raise inner at)

pub exp-If : (test right wrong : FullExp) (at : At)
    → exp_levels (e.If test right wrong at) ≡ suc (max (max (exp_levels test) (exp_levels right)) (exp_levels wrong))
unfolding dec_levels exp_levels exp_item_levels clause_levels exp_field_levels fun_bind_levels rule_levels val_bind_levels
exp-If test right wrong at =
    ap exp_levels (sym (e.rolls-If test right wrong at))
    ∙ fold-roll-FullExp _ _ _ _ _ _ _ _ dec_step exp_step exp_item_step clause_step
    exp_field_step fun_bind_step rule_step val_bind_step (FullExp-F.If test right wrong at)

pub exp-While : (test body : FullExp) (at : At)
    → exp_levels (e.While test body at) ≡ suc (max (exp_levels test) (exp_levels body))
unfolding dec_levels exp_levels exp_item_levels clause_levels exp_field_levels fun_bind_levels rule_levels val_bind_levels
exp-While test body at =
    ap exp_levels (sym (e.rolls-While test body at))
    ∙ fold-roll-FullExp _ _ _ _ _ _ _ _ dec_step exp_step exp_item_step clause_step
    exp_field_step fun_bind_step rule_step val_bind_step (FullExp-F.While test body at)

pub exp-Case : (subject : FullExp) (rules : List FullRule) (at : At)
    → exp_levels (e.Case subject rules at) ≡ suc (max (exp_levels subject) (all_levels rule_levels rules))
unfolding dec_levels exp_levels exp_item_levels clause_levels exp_field_levels fun_bind_levels rule_levels val_bind_levels
exp-Case subject rules at =
    ap exp_levels (sym (e.rolls-Case subject rules at))
    ∙ fold-roll-FullExp _ _ _ _ _ _ _ _ dec_step exp_step exp_item_step clause_step
    exp_field_step fun_bind_step rule_step val_bind_step (FullExp-F.Case subject rules at)

pub exp-Fn : (rules : List FullRule) (at : At) → exp_levels (e.Fn rules at) ≡ suc (all_levels rule_levels rules)
unfolding dec_levels exp_levels exp_item_levels clause_levels exp_field_levels fun_bind_levels rule_levels val_bind_levels
exp-Fn rules at =
    ap exp_levels (sym (e.rolls-Fn rules at))
    ∙ fold-roll-FullExp _ _ _ _ _ _ _ _ dec_step exp_step exp_item_step clause_step
    exp_field_step fun_bind_step rule_step val_bind_step (FullExp-F.Fn rules at)

pub item-Atom : (exp : FullExp) → exp_item_levels (item.Atom exp) ≡ exp_levels exp
unfolding dec_levels exp_levels exp_item_levels clause_levels exp_field_levels fun_bind_levels rule_levels val_bind_levels
item-Atom exp =
    ap exp_item_levels (sym (item.rolls-Atom exp))
    ∙ fold-roll-FullExpItem _ _ _ _ _ _ _ _ dec_step exp_step exp_item_step clause_step
    exp_field_step fun_bind_step rule_step val_bind_step (FullExpItem-F.Atom exp)

pub item-Operator : (called : Name) (fixity : Fixity) → exp_item_levels (item.Operator called fixity) ≡ 0
unfolding dec_levels exp_levels exp_item_levels clause_levels exp_field_levels fun_bind_levels rule_levels val_bind_levels
item-Operator called fixity =
    ap exp_item_levels (sym (item.rolls-Operator called fixity))
    ∙ fold-roll-FullExpItem _ _ _ _ _ _ _ _ dec_step exp_step exp_item_step clause_step
    exp_field_step fun_bind_step rule_step val_bind_step (FullExpItem-F.Operator called fixity)

pub clause-is : (found : FullHead) (ty : Option FullTy) (exp : FullExp) (place : At)
    → clause_levels (roll-FullClause (record { head = found; ty = ty; body = exp; at = place }))
    ≡ max (max (head_levels found) (if_levels ty_levels ty)) (exp_levels exp)
unfolding dec_levels exp_levels exp_item_levels clause_levels exp_field_levels fun_bind_levels rule_levels val_bind_levels
clause-is found ty exp place = fold-roll-FullClause _ _ _ _ _ _ _ _ dec_step exp_step exp_item_step clause_step
    exp_field_step fun_bind_step rule_step val_bind_step (record { head = found; ty = ty; body = exp; at = place })

pub exp_field-is : (name : Name) (value : FullExp)
    → exp_field_levels (roll-FullExpField (record { label = name; exp = value })) ≡ exp_levels value
unfolding dec_levels exp_levels exp_item_levels clause_levels exp_field_levels fun_bind_levels rule_levels val_bind_levels
exp_field-is name value = fold-roll-FullExpField _ _ _ _ _ _ _ _ dec_step exp_step exp_item_step clause_step
    exp_field_step fun_bind_step rule_step val_bind_step (record { label = name; exp = value })

pub fun_bind-is : (found : List FullClause) (place : At)
    → fun_bind_levels (roll-FullFunBind (record { clauses = found; at = place })) ≡ all_levels clause_levels found
unfolding dec_levels exp_levels exp_item_levels clause_levels exp_field_levels fun_bind_levels rule_levels val_bind_levels
fun_bind-is found place = fold-roll-FullFunBind _ _ _ _ _ _ _ _ dec_step exp_step exp_item_step clause_step
    exp_field_step fun_bind_step rule_step val_bind_step (record { clauses = found; at = place })

pub rule-is : (found : FullPat) (value : FullExp) (place : At)
    → rule_levels (roll-FullRule (record { pat = found; exp = value; at = place }))
    ≡ max (pat_levels found) (exp_levels value)
unfolding dec_levels exp_levels exp_item_levels clause_levels exp_field_levels fun_bind_levels rule_levels val_bind_levels
rule-is found value place = fold-roll-FullRule _ _ _ _ _ _ _ _ dec_step exp_step exp_item_step clause_step
    exp_field_step fun_bind_step rule_step val_bind_step (record { pat = found; exp = value; at = place })

pub val_bind-is : (count : ℕ) (found : FullPat) (value : FullExp) (place : At)
    → val_bind_levels (roll-FullValBind (record { recs = count; pat = found; exp = value; at = place }))
    ≡ max (pat_levels found) (exp_levels value)
unfolding dec_levels exp_levels exp_item_levels clause_levels exp_field_levels fun_bind_levels rule_levels val_bind_levels
val_bind-is count found value place = fold-roll-FullValBind _ _ _ _ _ _ _ _ dec_step exp_step exp_item_step clause_step
    exp_field_step fun_bind_step rule_step val_bind_step (record { recs = count; pat = found; exp = value; at = place })
