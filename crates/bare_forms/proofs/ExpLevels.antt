-- What each form of an expression or a declaration becomes, with what its parts become.
use Rattle.std.proofs.Common.{◌≡◌, ℕ, List, [], ◌∷◌, Option, sym, ap, ap₂, ◌∙◌, map}
use Rattle.bare_forms.specs.Runs.{Part, run_of}
use Rattle.bare_forms.specs.Types.{bare_ty, bare_typ_bind, bare_dat_bind, bare_ex_bind}
use Rattle.bare_forms.specs.Patterns.{bare_pat}
use Rattle.bare_forms.specs.Nodes.{placed_exp, rule, field, constant_exp, unit_exp, tuple_exp, case_exp, if_exp, or_else, and_also, while_exp, list_exp, sequence_exp, body_exp, joined_exp, applied_exp, missing_exp, fun_rule}
use Rattle.bare_forms.specs.Expressions.{placed_dec, clause_of, plain_rules, rec_rules, sequence_dec, dec_level, exp_level, exp_item_level, clause_level, exp_field_level, fun_bind_level, rule_level, val_bind_level, bare_dec, bare_exp, bare_item, bare_clause, bare_field, bare_fun_bind, bare_rule, bare_val_bind}
use Rattle.sml_trees.specs.declared.name.At.{At}
use Rattle.sml_trees.specs.declared.name.Name.{Name}
use Rattle.sml_trees.specs.declared.name.LongName.{LongName}
use Rattle.sml_trees.specs.declared.full_ty.FullTy.{FullTy}
use Rattle.sml_trees.specs.declared.full_ty.OpLong.{OpLong}
use Rattle.sml_trees.specs.declared.full_ty.FullTypBind.{FullTypBind}
use Rattle.sml_trees.specs.declared.full_ty.FullDatBind.{FullDatBind}
use Rattle.sml_trees.specs.declared.full_ty.FullExBind.{FullExBind}
use Rattle.sml_trees.specs.declared.full_pat.Constant.{Constant}
use Rattle.sml_trees.specs.declared.full_pat.Fixity.{Fixity}
use Rattle.sml_trees.specs.declared.full_exp.FullDec.{FullDec}
use Rattle.sml_trees.specs.declared.full_exp.FullDec.TheOpen.{FullDec-F, FullExp-F, FullExpItem-F}
use Rattle.sml_trees.specs.declared.full_exp.FullDec.TheFolds.{fold-roll-FullDec, fold-roll-FullExp, fold-roll-FullExpItem, fold-roll-FullClause, fold-roll-FullExpField, fold-roll-FullFunBind, fold-roll-FullRule, fold-roll-FullValBind}
use Rattle.sml_trees.specs.declared.full_exp.FullDec.TheVariants as full_dec
use Rattle.sml_trees.specs.declared.full_exp.FullExp.{FullExp}
use Rattle.sml_trees.specs.declared.full_exp.FullExp.TheVariants as full_exp
use Rattle.sml_trees.specs.declared.full_exp.FullExpItem.{FullExpItem}
use Rattle.sml_trees.specs.declared.full_exp.FullExpItem.TheVariants as item
use Rattle.sml_trees.specs.declared.full_exp.FullClause.{FullClause, out-FullClause, roll-out-FullClause}
use Rattle.sml_trees.specs.declared.full_exp.FullExpField.{FullExpField, out-FullExpField, roll-out-FullExpField}
use Rattle.sml_trees.specs.declared.full_exp.FullFunBind.{FullFunBind, out-FullFunBind, roll-out-FullFunBind}
use Rattle.sml_trees.specs.declared.full_exp.FullRule.{FullRule, out-FullRule, roll-out-FullRule}
use Rattle.sml_trees.specs.declared.full_exp.FullValBind.{FullValBind, out-FullValBind, roll-out-FullValBind}
use Rattle.sml_trees.specs.declared.exp.Dec.TheVariants as dec
use Rattle.sml_trees.specs.declared.exp.Exp.{Exp}
use Rattle.sml_trees.specs.declared.exp.Exp.TheVariants as exp
use Rattle.bare_forms.specs.declared.placed.PlacedExp.{PlacedExp}

-- ---- expressions

pub bare_exp-Constant : (c : Constant) (at : At)
    → bare_exp (full_exp.Constant c at)
    ≡ placed_exp at (constant_exp c at)
unfolding bare_dec bare_exp bare_item bare_clause bare_field bare_fun_bind bare_rule bare_val_bind
bare_exp-Constant c at =
    ap bare_exp (sym (full_exp.rolls-Constant c at))
    ∙ fold-roll-FullExp _ _ _ _ _ _ _ _ dec_level exp_level exp_item_level clause_level
    exp_field_level fun_bind_level rule_level val_bind_level (FullExp-F.Constant c at)

pub bare_exp-Long : (long : OpLong) (at : At)
    → bare_exp (full_exp.Long long at)
    ≡ placed_exp at (exp.Long long.long at)
unfolding bare_dec bare_exp bare_item bare_clause bare_field bare_fun_bind bare_rule bare_val_bind
bare_exp-Long long at =
    ap bare_exp (sym (full_exp.rolls-Long long at))
    ∙ fold-roll-FullExp _ _ _ _ _ _ _ _ dec_level exp_level exp_item_level clause_level
    exp_field_level fun_bind_level rule_level val_bind_level (FullExp-F.Long long at)

pub bare_exp-Record : (fields : List FullExpField) (at : At)
    → bare_exp (full_exp.Record fields at)
    ≡ placed_exp at (exp.Record (map bare_field fields) at)
unfolding bare_dec bare_exp bare_item bare_clause bare_field bare_fun_bind bare_rule bare_val_bind
bare_exp-Record fields at =
    ap bare_exp (sym (full_exp.rolls-Record fields at))
    ∙ fold-roll-FullExp _ _ _ _ _ _ _ _ dec_level exp_level exp_item_level clause_level
    exp_field_level fun_bind_level rule_level val_bind_level (FullExp-F.Record fields at)

pub bare_exp-Unit : (at : At)
    → bare_exp (full_exp.Unit at)
    ≡ placed_exp at (unit_exp at)
unfolding bare_dec bare_exp bare_item bare_clause bare_field bare_fun_bind bare_rule bare_val_bind
bare_exp-Unit at =
    ap bare_exp (sym (full_exp.rolls-Unit at))
    ∙ fold-roll-FullExp _ _ _ _ _ _ _ _ dec_level exp_level exp_item_level clause_level
    exp_field_level fun_bind_level rule_level val_bind_level (FullExp-F.Unit at)

pub bare_exp-Tuple : (parts : List FullExp) (at : At)
    → bare_exp (full_exp.Tuple parts at)
    ≡ placed_exp at (tuple_exp at (map bare_exp parts))
unfolding bare_dec bare_exp bare_item bare_clause bare_field bare_fun_bind bare_rule bare_val_bind
bare_exp-Tuple parts at =
    ap bare_exp (sym (full_exp.rolls-Tuple parts at))
    ∙ fold-roll-FullExp _ _ _ _ _ _ _ _ dec_level exp_level exp_item_level clause_level
    exp_field_level fun_bind_level rule_level val_bind_level (FullExp-F.Tuple parts at)

pub bare_exp-Sequence : (exps : List FullExp) (at : At)
    → bare_exp (full_exp.Sequence exps at)
    ≡ placed_exp at (sequence_exp at (map bare_exp exps))
unfolding bare_dec bare_exp bare_item bare_clause bare_field bare_fun_bind bare_rule bare_val_bind
bare_exp-Sequence exps at =
    ap bare_exp (sym (full_exp.rolls-Sequence exps at))
    ∙ fold-roll-FullExp _ _ _ _ _ _ _ _ dec_level exp_level exp_item_level clause_level
    exp_field_level fun_bind_level rule_level val_bind_level (FullExp-F.Sequence exps at)

pub bare_exp-Paren : (inner : FullExp) (at : At)
    → bare_exp (full_exp.Paren inner at)
    ≡ placed_exp at ((bare_exp inner).exp)
unfolding bare_dec bare_exp bare_item bare_clause bare_field bare_fun_bind bare_rule bare_val_bind
bare_exp-Paren inner at =
    ap bare_exp (sym (full_exp.rolls-Paren inner at))
    ∙ fold-roll-FullExp _ _ _ _ _ _ _ _ dec_level exp_level exp_item_level clause_level
    exp_field_level fun_bind_level rule_level val_bind_level (FullExp-F.Paren inner at)

pub bare_exp-List : (items : List FullExp) (at : At)
    → bare_exp (full_exp.List items at)
    ≡ placed_exp at (list_exp at (map bare_exp items))
unfolding bare_dec bare_exp bare_item bare_clause bare_field bare_fun_bind bare_rule bare_val_bind
bare_exp-List items at =
    ap bare_exp (sym (full_exp.rolls-List items at))
    ∙ fold-roll-FullExp _ _ _ _ _ _ _ _ dec_level exp_level exp_item_level clause_level
    exp_field_level fun_bind_level rule_level val_bind_level (FullExp-F.List items at)

pub bare_exp-Let : (decs : List FullDec) (exps : List FullExp) (at : At)
    → bare_exp (full_exp.Let decs exps at)
    ≡ placed_exp at (exp.Let (sequence_dec at (map bare_dec decs)) (body_exp at (map bare_exp exps)) at)
unfolding bare_dec bare_exp bare_item bare_clause bare_field bare_fun_bind bare_rule bare_val_bind
bare_exp-Let decs exps at =
    ap bare_exp (sym (full_exp.rolls-Let decs exps at))
    ∙ fold-roll-FullExp _ _ _ _ _ _ _ _ dec_level exp_level exp_item_level clause_level
    exp_field_level fun_bind_level rule_level val_bind_level (FullExp-F.Let decs exps at)

pub bare_exp-Run : (items : List FullExpItem) (at : At)
    → bare_exp (full_exp.Run items at)
    ≡ placed_exp at (run_of joined_exp applied_exp (missing_exp at) (map bare_item items)).exp
unfolding bare_dec bare_exp bare_item bare_clause bare_field bare_fun_bind bare_rule bare_val_bind
bare_exp-Run items at =
    ap bare_exp (sym (full_exp.rolls-Run items at))
    ∙ fold-roll-FullExp _ _ _ _ _ _ _ _ dec_level exp_level exp_item_level clause_level
    exp_field_level fun_bind_level rule_level val_bind_level (FullExp-F.Run items at)

pub bare_exp-Typed : (inner : FullExp) (ty : FullTy) (at : At)
    → bare_exp (full_exp.Typed inner ty at)
    ≡ placed_exp at (exp.Typed (bare_exp inner).exp (bare_ty ty) at)
unfolding bare_dec bare_exp bare_item bare_clause bare_field bare_fun_bind bare_rule bare_val_bind
bare_exp-Typed inner ty at =
    ap bare_exp (sym (full_exp.rolls-Typed inner ty at))
    ∙ fold-roll-FullExp _ _ _ _ _ _ _ _ dec_level exp_level exp_item_level clause_level
    exp_field_level fun_bind_level rule_level val_bind_level (FullExp-F.Typed inner ty at)

pub bare_exp-AndAlso : (a : FullExp) (b : FullExp) (at : At)
    → bare_exp (full_exp.AndAlso a b at)
    ≡ placed_exp at (and_also at (bare_exp a).exp (bare_exp b).exp)
unfolding bare_dec bare_exp bare_item bare_clause bare_field bare_fun_bind bare_rule bare_val_bind
bare_exp-AndAlso a b at =
    ap bare_exp (sym (full_exp.rolls-AndAlso a b at))
    ∙ fold-roll-FullExp _ _ _ _ _ _ _ _ dec_level exp_level exp_item_level clause_level
    exp_field_level fun_bind_level rule_level val_bind_level (FullExp-F.AndAlso a b at)

pub bare_exp-OrElse : (a : FullExp) (b : FullExp) (at : At)
    → bare_exp (full_exp.OrElse a b at)
    ≡ placed_exp at (or_else at (bare_exp a).exp (bare_exp b).exp)
unfolding bare_dec bare_exp bare_item bare_clause bare_field bare_fun_bind bare_rule bare_val_bind
bare_exp-OrElse a b at =
    ap bare_exp (sym (full_exp.rolls-OrElse a b at))
    ∙ fold-roll-FullExp _ _ _ _ _ _ _ _ dec_level exp_level exp_item_level clause_level
    exp_field_level fun_bind_level rule_level val_bind_level (FullExp-F.OrElse a b at)

pub bare_exp-Handle : (inner : FullExp) (rules : List FullRule) (at : At)
    → bare_exp (full_exp.Handle inner rules at)
    ≡ placed_exp at (exp.Handle (bare_exp inner).exp (map bare_rule rules) at)
unfolding bare_dec bare_exp bare_item bare_clause bare_field bare_fun_bind bare_rule bare_val_bind
bare_exp-Handle inner rules at =
    ap bare_exp (sym (full_exp.rolls-Handle inner rules at))
    ∙ fold-roll-FullExp _ _ _ _ _ _ _ _ dec_level exp_level exp_item_level clause_level
    exp_field_level fun_bind_level rule_level val_bind_level (FullExp-F.Handle inner rules at)

pub bare_exp-Raise : (inner : FullExp) (at : At)
    → bare_exp (full_exp.Raise inner at)
    ≡ placed_exp at (exp.Raise (bare_exp inner).exp at)
unfolding bare_dec bare_exp bare_item bare_clause bare_field bare_fun_bind bare_rule bare_val_bind
bare_exp-Raise inner at =
    ap bare_exp (sym (full_exp.rolls-Raise inner at))
    ∙ fold-roll-FullExp _ _ _ _ _ _ _ _ dec_level exp_level exp_item_level clause_level
    exp_field_level fun_bind_level rule_level val_bind_level (FullExp-F.Raise inner at)

pub bare_exp-If : (a : FullExp) (b : FullExp) (c : FullExp) (at : At)
    → bare_exp (full_exp.If a b c at)
    ≡ placed_exp at (if_exp at (bare_exp a).exp (bare_exp b).exp (bare_exp c).exp)
unfolding bare_dec bare_exp bare_item bare_clause bare_field bare_fun_bind bare_rule bare_val_bind
bare_exp-If a b c at =
    ap bare_exp (sym (full_exp.rolls-If a b c at))
    ∙ fold-roll-FullExp _ _ _ _ _ _ _ _ dec_level exp_level exp_item_level clause_level
    exp_field_level fun_bind_level rule_level val_bind_level (FullExp-F.If a b c at)

pub bare_exp-While : (a : FullExp) (b : FullExp) (at : At)
    → bare_exp (full_exp.While a b at)
    ≡ placed_exp at (while_exp at (bare_exp a).exp (bare_exp b).exp)
unfolding bare_dec bare_exp bare_item bare_clause bare_field bare_fun_bind bare_rule bare_val_bind
bare_exp-While a b at =
    ap bare_exp (sym (full_exp.rolls-While a b at))
    ∙ fold-roll-FullExp _ _ _ _ _ _ _ _ dec_level exp_level exp_item_level clause_level
    exp_field_level fun_bind_level rule_level val_bind_level (FullExp-F.While a b at)

pub bare_exp-Case : (subject : FullExp) (rules : List FullRule) (at : At)
    → bare_exp (full_exp.Case subject rules at)
    ≡ placed_exp at (case_exp at (bare_exp subject).exp (map bare_rule rules))
unfolding bare_dec bare_exp bare_item bare_clause bare_field bare_fun_bind bare_rule bare_val_bind
bare_exp-Case subject rules at =
    ap bare_exp (sym (full_exp.rolls-Case subject rules at))
    ∙ fold-roll-FullExp _ _ _ _ _ _ _ _ dec_level exp_level exp_item_level clause_level
    exp_field_level fun_bind_level rule_level val_bind_level (FullExp-F.Case subject rules at)

pub bare_exp-Fn : (rules : List FullRule) (at : At)
    → bare_exp (full_exp.Fn rules at)
    ≡ placed_exp at (exp.Fn (map bare_rule rules) at)
unfolding bare_dec bare_exp bare_item bare_clause bare_field bare_fun_bind bare_rule bare_val_bind
bare_exp-Fn rules at =
    ap bare_exp (sym (full_exp.rolls-Fn rules at))
    ∙ fold-roll-FullExp _ _ _ _ _ _ _ _ dec_level exp_level exp_item_level clause_level
    exp_field_level fun_bind_level rule_level val_bind_level (FullExp-F.Fn rules at)

-- ---- declarations

pub bare_dec-Val : (tyvars : List Name) (binds : List FullValBind) (at : At)
    → bare_dec (full_dec.Val tyvars binds at)
    ≡ placed_dec at (dec.Val tyvars (plain_rules (map bare_val_bind binds)) (rec_rules (map bare_val_bind binds)) at ∷ [])
unfolding bare_dec bare_exp bare_item bare_clause bare_field bare_fun_bind bare_rule bare_val_bind
bare_dec-Val tyvars binds at =
    ap bare_dec (sym (full_dec.rolls-Val tyvars binds at))
    ∙ fold-roll-FullDec _ _ _ _ _ _ _ _ dec_level exp_level exp_item_level clause_level
    exp_field_level fun_bind_level rule_level val_bind_level (FullDec-F.Val tyvars binds at)

pub bare_dec-Fun : (tyvars : List Name) (binds : List FullFunBind) (at : At)
    → bare_dec (full_dec.Fun tyvars binds at)
    ≡ placed_dec at (dec.Val tyvars [] (map bare_fun_bind binds) at ∷ [])
unfolding bare_dec bare_exp bare_item bare_clause bare_field bare_fun_bind bare_rule bare_val_bind
bare_dec-Fun tyvars binds at =
    ap bare_dec (sym (full_dec.rolls-Fun tyvars binds at))
    ∙ fold-roll-FullDec _ _ _ _ _ _ _ _ dec_level exp_level exp_item_level clause_level
    exp_field_level fun_bind_level rule_level val_bind_level (FullDec-F.Fun tyvars binds at)

pub bare_dec-Types : (binds : List FullTypBind) (at : At)
    → bare_dec (full_dec.Types binds at)
    ≡ placed_dec at (dec.Types (map bare_typ_bind binds) at ∷ [])
unfolding bare_dec bare_exp bare_item bare_clause bare_field bare_fun_bind bare_rule bare_val_bind
bare_dec-Types binds at =
    ap bare_dec (sym (full_dec.rolls-Types binds at))
    ∙ fold-roll-FullDec _ _ _ _ _ _ _ _ dec_level exp_level exp_item_level clause_level
    exp_field_level fun_bind_level rule_level val_bind_level (FullDec-F.Types binds at)

pub bare_dec-Datatypes : (binds : List FullDatBind) (at : At)
    → bare_dec (full_dec.Datatypes binds at)
    ≡ placed_dec at (dec.Datatypes (map bare_dat_bind binds) at ∷ [])
unfolding bare_dec bare_exp bare_item bare_clause bare_field bare_fun_bind bare_rule bare_val_bind
bare_dec-Datatypes binds at =
    ap bare_dec (sym (full_dec.rolls-Datatypes binds at))
    ∙ fold-roll-FullDec _ _ _ _ _ _ _ _ dec_level exp_level exp_item_level clause_level
    exp_field_level fun_bind_level rule_level val_bind_level (FullDec-F.Datatypes binds at)

pub bare_dec-Replication : (name : Name) (long : LongName) (at : At)
    → bare_dec (full_dec.Replication name long at)
    ≡ placed_dec at (dec.Replication name long at ∷ [])
unfolding bare_dec bare_exp bare_item bare_clause bare_field bare_fun_bind bare_rule bare_val_bind
bare_dec-Replication name long at =
    ap bare_dec (sym (full_dec.rolls-Replication name long at))
    ∙ fold-roll-FullDec _ _ _ _ _ _ _ _ dec_level exp_level exp_item_level clause_level
    exp_field_level fun_bind_level rule_level val_bind_level (FullDec-F.Replication name long at)

pub bare_dec-Exceptions : (binds : List FullExBind) (at : At)
    → bare_dec (full_dec.Exceptions binds at)
    ≡ placed_dec at (dec.Exceptions (map bare_ex_bind binds) at ∷ [])
unfolding bare_dec bare_exp bare_item bare_clause bare_field bare_fun_bind bare_rule bare_val_bind
bare_dec-Exceptions binds at =
    ap bare_dec (sym (full_dec.rolls-Exceptions binds at))
    ∙ fold-roll-FullDec _ _ _ _ _ _ _ _ dec_level exp_level exp_item_level clause_level
    exp_field_level fun_bind_level rule_level val_bind_level (FullDec-F.Exceptions binds at)

pub bare_dec-Local : (hidden : List FullDec) (decs : List FullDec) (at : At)
    → bare_dec (full_dec.Local hidden decs at)
    ≡ placed_dec at (dec.Local (sequence_dec at (map bare_dec hidden)) (sequence_dec at (map bare_dec decs)) at ∷ [])
unfolding bare_dec bare_exp bare_item bare_clause bare_field bare_fun_bind bare_rule bare_val_bind
bare_dec-Local hidden decs at =
    ap bare_dec (sym (full_dec.rolls-Local hidden decs at))
    ∙ fold-roll-FullDec _ _ _ _ _ _ _ _ dec_level exp_level exp_item_level clause_level
    exp_field_level fun_bind_level rule_level val_bind_level (FullDec-F.Local hidden decs at)

pub bare_dec-Open : (longs : List LongName) (at : At)
    → bare_dec (full_dec.Open longs at)
    ≡ placed_dec at (dec.Open longs at ∷ [])
unfolding bare_dec bare_exp bare_item bare_clause bare_field bare_fun_bind bare_rule bare_val_bind
bare_dec-Open longs at =
    ap bare_dec (sym (full_dec.rolls-Open longs at))
    ∙ fold-roll-FullDec _ _ _ _ _ _ _ _ dec_level exp_level exp_item_level clause_level
    exp_field_level fun_bind_level rule_level val_bind_level (FullDec-F.Open longs at)

pub bare_dec-Infix : (strength : Option ℕ) (names : List Name) (at : At)
    → bare_dec (full_dec.Infix strength names at)
    ≡ placed_dec at []
unfolding bare_dec bare_exp bare_item bare_clause bare_field bare_fun_bind bare_rule bare_val_bind
bare_dec-Infix strength names at =
    ap bare_dec (sym (full_dec.rolls-Infix strength names at))
    ∙ fold-roll-FullDec _ _ _ _ _ _ _ _ dec_level exp_level exp_item_level clause_level
    exp_field_level fun_bind_level rule_level val_bind_level (FullDec-F.Infix strength names at)

pub bare_dec-Infixr : (strength : Option ℕ) (names : List Name) (at : At)
    → bare_dec (full_dec.Infixr strength names at)
    ≡ placed_dec at []
unfolding bare_dec bare_exp bare_item bare_clause bare_field bare_fun_bind bare_rule bare_val_bind
bare_dec-Infixr strength names at =
    ap bare_dec (sym (full_dec.rolls-Infixr strength names at))
    ∙ fold-roll-FullDec _ _ _ _ _ _ _ _ dec_level exp_level exp_item_level clause_level
    exp_field_level fun_bind_level rule_level val_bind_level (FullDec-F.Infixr strength names at)

pub bare_dec-Nonfix : (names : List Name) (at : At)
    → bare_dec (full_dec.Nonfix names at)
    ≡ placed_dec at []
unfolding bare_dec bare_exp bare_item bare_clause bare_field bare_fun_bind bare_rule bare_val_bind
bare_dec-Nonfix names at =
    ap bare_dec (sym (full_dec.rolls-Nonfix names at))
    ∙ fold-roll-FullDec _ _ _ _ _ _ _ _ dec_level exp_level exp_item_level clause_level
    exp_field_level fun_bind_level rule_level val_bind_level (FullDec-F.Nonfix names at)

-- ---- the parts of a run

pub bare_item-Atom : (e : FullExp)
    → bare_item (item.Atom e)
    ≡ Part.Atom (bare_exp e)
unfolding bare_dec bare_exp bare_item bare_clause bare_field bare_fun_bind bare_rule bare_val_bind
bare_item-Atom e =
    ap bare_item (sym (item.rolls-Atom e))
    ∙ fold-roll-FullExpItem _ _ _ _ _ _ _ _ dec_level exp_level exp_item_level clause_level
    exp_field_level fun_bind_level rule_level val_bind_level (FullExpItem-F.Atom e)

pub bare_item-Operator : (name : Name) (fixity : Fixity)
    → bare_item (item.Operator name fixity)
    ≡ Part.Operator (record { name = name; fixity = fixity })
unfolding bare_dec bare_exp bare_item bare_clause bare_field bare_fun_bind bare_rule bare_val_bind
bare_item-Operator name fixity =
    ap bare_item (sym (item.rolls-Operator name fixity))
    ∙ fold-roll-FullExpItem _ _ _ _ _ _ _ _ dec_level exp_level exp_item_level clause_level
    exp_field_level fun_bind_level rule_level val_bind_level (FullExpItem-F.Operator name fixity)

-- ---- fields, rules, clauses and bindings

pub bare_field-kept : (part : FullExpField)
    → bare_field part
    ≡ field (out-FullExpField part).label (bare_exp (out-FullExpField part).exp).exp
unfolding bare_dec bare_exp bare_item bare_clause bare_field bare_fun_bind bare_rule bare_val_bind
bare_field-kept part =
    ap bare_field (sym (roll-out-FullExpField part))
    ∙ fold-roll-FullExpField _ _ _ _ _ _ _ _ dec_level exp_level exp_item_level clause_level
    exp_field_level fun_bind_level rule_level val_bind_level (out-FullExpField part)

pub bare_rule-kept : (each : FullRule)
    → bare_rule each
    ≡ rule (bare_pat (out-FullRule each).pat).pat (bare_exp (out-FullRule each).exp).exp
unfolding bare_dec bare_exp bare_item bare_clause bare_field bare_fun_bind bare_rule bare_val_bind
bare_rule-kept each =
    ap bare_rule (sym (roll-out-FullRule each))
    ∙ fold-roll-FullRule _ _ _ _ _ _ _ _ dec_level exp_level exp_item_level clause_level
    exp_field_level fun_bind_level rule_level val_bind_level (out-FullRule each)

pub bare_val_bind-kept : (bind : FullValBind)
    → bare_val_bind bind
    ≡ record { recs = (out-FullValBind bind).recs; rule = rule (bare_pat (out-FullValBind bind).pat).pat (bare_exp (out-FullValBind bind).exp).exp }
unfolding bare_dec bare_exp bare_item bare_clause bare_field bare_fun_bind bare_rule bare_val_bind
bare_val_bind-kept bind =
    ap bare_val_bind (sym (roll-out-FullValBind bind))
    ∙ fold-roll-FullValBind _ _ _ _ _ _ _ _ dec_level exp_level exp_item_level clause_level
    exp_field_level fun_bind_level rule_level val_bind_level (out-FullValBind bind)

pub bare_clause-kept : (clause : FullClause)
    → bare_clause clause
    ≡ clause_of (out-FullClause clause).head (out-FullClause clause).ty (out-FullClause clause).at (bare_exp (out-FullClause clause).body)
unfolding bare_dec bare_exp bare_item bare_clause bare_field bare_fun_bind bare_rule bare_val_bind
bare_clause-kept clause =
    ap bare_clause (sym (roll-out-FullClause clause))
    ∙ fold-roll-FullClause _ _ _ _ _ _ _ _ dec_level exp_level exp_item_level clause_level
    exp_field_level fun_bind_level rule_level val_bind_level (out-FullClause clause)

pub bare_fun_bind-kept : (bind : FullFunBind)
    → bare_fun_bind bind
    ≡ fun_rule (out-FullFunBind bind).at (map bare_clause (out-FullFunBind bind).clauses)
unfolding bare_dec bare_exp bare_item bare_clause bare_field bare_fun_bind bare_rule bare_val_bind
bare_fun_bind-kept bind =
    ap bare_fun_bind (sym (roll-out-FullFunBind bind))
    ∙ fold-roll-FullFunBind _ _ _ _ _ _ _ _ dec_level exp_level exp_item_level clause_level
    exp_field_level fun_bind_level rule_level val_bind_level (out-FullFunBind bind)

-- an expression with its place, by its two parts
pub placed_exp-whole : (whole : PlacedExp) (at : At) (e : Exp) → at ≡ whole.at → e ≡ whole.exp
    → record { at = at; exp = e } ≡ whole
placed_exp-whole whole at e at_is e_is = ap₂ (λ a x. placed_exp a x) at_is e_is

pub ruleset exp_whole = (placed_exp-whole)

pub ruleset exp_forms = (
  bare_exp-Constant,
  bare_exp-Long,
  bare_exp-Record,
  bare_exp-Unit,
  bare_exp-Tuple,
  bare_exp-Sequence,
  bare_exp-Paren,
  bare_exp-List,
  bare_exp-Let,
  bare_exp-Run,
  bare_exp-Typed,
  bare_exp-AndAlso,
  bare_exp-OrElse,
  bare_exp-Handle,
  bare_exp-Raise,
  bare_exp-If,
  bare_exp-While,
  bare_exp-Case,
  bare_exp-Fn,
)

pub ruleset dec_forms = (
  bare_dec-Val,
  bare_dec-Fun,
  bare_dec-Types,
  bare_dec-Datatypes,
  bare_dec-Replication,
  bare_dec-Exceptions,
  bare_dec-Local,
  bare_dec-Open,
  bare_dec-Infix,
  bare_dec-Infixr,
  bare_dec-Nonfix,
)

pub ruleset field_form = (bare_field-kept)

pub ruleset rule_form = (bare_rule-kept)

pub ruleset val_bind_form = (bare_val_bind-kept)

pub ruleset clause_form = (bare_clause-kept)

pub ruleset fun_bind_form = (bare_fun_bind-kept)
