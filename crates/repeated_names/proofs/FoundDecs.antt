-- The lists of one level of an expression or a declaration of the core.
use Rattle.std.proofs.Common.{◌≡◌, List, ◌++◌, sym, ap, ◌∙◌, map}
use Rattle.sml_trees.specs.declared.name.At.{At}
use Rattle.sml_trees.specs.declared.name.Name.{Name}
use Rattle.sml_trees.specs.declared.full_ty.FullTy.{FullTy}
use Rattle.sml_trees.specs.declared.full_exp.FullDec.{FullDec}
use Rattle.sml_trees.specs.declared.full_exp.FullDec.TheOpen.{FullDec-F, FullExp-F, FullExpItem-F}
use Rattle.sml_trees.specs.declared.full_exp.FullDec.TheFolds.{fold-roll-FullDec, fold-roll-FullExp, fold-roll-FullExpItem, fold-roll-FullClause, fold-roll-FullExpField, fold-roll-FullFunBind, fold-roll-FullRule, fold-roll-FullValBind}
use Rattle.sml_trees.specs.declared.full_exp.FullDec.TheVariants as full_dec
use Rattle.sml_trees.specs.declared.full_exp.FullExp.{FullExp}
use Rattle.sml_trees.specs.declared.full_exp.FullExp.TheVariants as full_exp
use Rattle.sml_trees.specs.declared.full_exp.FullExpItem.{FullExpItem}
use Rattle.sml_trees.specs.declared.full_exp.FullClause.{FullClause, out-FullClause, roll-out-FullClause}
use Rattle.sml_trees.specs.declared.full_exp.FullExpField.{FullExpField, out-FullExpField, roll-out-FullExpField}
use Rattle.sml_trees.specs.declared.full_exp.FullFunBind.{FullFunBind, out-FullFunBind, roll-out-FullFunBind}
use Rattle.sml_trees.specs.declared.full_exp.FullRule.{FullRule, out-FullRule, roll-out-FullRule}
use Rattle.sml_trees.specs.declared.full_exp.FullValBind.{FullValBind, out-FullValBind, roll-out-FullValBind}
use Rattle.repeated_names.specs.Repeats.{member, repeats_in, all_repeats}
use Rattle.repeated_names.specs.RepeatedTypes.{ty_repeats, optional_ty, tyvar_repeats, pat_repeats}
use Rattle.repeated_names.specs.RepeatedDecs.{head_repeats, dec_level, exp_level, exp_item_level, clause_level, exp_field_level, fun_bind_level, rule_level, val_bind_level, dec_repeats, exp_repeats, exp_item_repeats, clause_repeats, exp_field_member, fun_bind_repeats, rule_repeats, val_bind_repeats}
use Rattle.repeated_names.proofs.Found.{earliest_with-append}

-- ---- expressions

pub exp_repeats-Record : (fields : List FullExpField) (at : At)
    → exp_repeats (full_exp.Record fields at) ≡ repeats_in (map exp_field_member fields)
exp_repeats-Record fields at =
    ap exp_repeats (sym (full_exp.rolls-Record fields at))
    ∙ fold-roll-FullExp _ _ _ _ _ _ _ _ dec_level exp_level exp_item_level clause_level exp_field_level fun_bind_level rule_level val_bind_level (FullExp-F.Record fields at)

pub exp_repeats-Tuple : (parts : List FullExp) (at : At)
    → exp_repeats (full_exp.Tuple parts at) ≡ all_repeats (map exp_repeats parts)
exp_repeats-Tuple parts at =
    ap exp_repeats (sym (full_exp.rolls-Tuple parts at))
    ∙ fold-roll-FullExp _ _ _ _ _ _ _ _ dec_level exp_level exp_item_level clause_level exp_field_level fun_bind_level rule_level val_bind_level (FullExp-F.Tuple parts at)

pub exp_repeats-Sequence : (exps : List FullExp) (at : At)
    → exp_repeats (full_exp.Sequence exps at) ≡ all_repeats (map exp_repeats exps)
exp_repeats-Sequence exps at =
    ap exp_repeats (sym (full_exp.rolls-Sequence exps at))
    ∙ fold-roll-FullExp _ _ _ _ _ _ _ _ dec_level exp_level exp_item_level clause_level exp_field_level fun_bind_level rule_level val_bind_level (FullExp-F.Sequence exps at)

pub exp_repeats-List : (items : List FullExp) (at : At)
    → exp_repeats (full_exp.List items at) ≡ all_repeats (map exp_repeats items)
exp_repeats-List items at =
    ap exp_repeats (sym (full_exp.rolls-List items at))
    ∙ fold-roll-FullExp _ _ _ _ _ _ _ _ dec_level exp_level exp_item_level clause_level exp_field_level fun_bind_level rule_level val_bind_level (FullExp-F.List items at)

pub exp_repeats-Let : (decs : List FullDec) (exps : List FullExp) (at : At)
    → exp_repeats (full_exp.Let decs exps at) ≡ all_repeats (map dec_repeats decs) ++ all_repeats (map exp_repeats exps)
exp_repeats-Let decs exps at =
    ap exp_repeats (sym (full_exp.rolls-Let decs exps at))
    ∙ fold-roll-FullExp _ _ _ _ _ _ _ _ dec_level exp_level exp_item_level clause_level exp_field_level fun_bind_level rule_level val_bind_level (FullExp-F.Let decs exps at)

pub exp_repeats-Run : (items : List FullExpItem) (at : At)
    → exp_repeats (full_exp.Run items at) ≡ all_repeats (map exp_item_repeats items)
exp_repeats-Run items at =
    ap exp_repeats (sym (full_exp.rolls-Run items at))
    ∙ fold-roll-FullExp _ _ _ _ _ _ _ _ dec_level exp_level exp_item_level clause_level exp_field_level fun_bind_level rule_level val_bind_level (FullExp-F.Run items at)

pub exp_repeats-Handle : (inner : FullExp) (rules : List FullRule) (at : At)
    → exp_repeats (full_exp.Handle inner rules at) ≡ exp_repeats inner ++ all_repeats (map rule_repeats rules)
exp_repeats-Handle inner rules at =
    ap exp_repeats (sym (full_exp.rolls-Handle inner rules at))
    ∙ fold-roll-FullExp _ _ _ _ _ _ _ _ dec_level exp_level exp_item_level clause_level exp_field_level fun_bind_level rule_level val_bind_level (FullExp-F.Handle inner rules at)

pub exp_repeats-Case : (subject : FullExp) (rules : List FullRule) (at : At)
    → exp_repeats (full_exp.Case subject rules at) ≡ exp_repeats subject ++ all_repeats (map rule_repeats rules)
exp_repeats-Case subject rules at =
    ap exp_repeats (sym (full_exp.rolls-Case subject rules at))
    ∙ fold-roll-FullExp _ _ _ _ _ _ _ _ dec_level exp_level exp_item_level clause_level exp_field_level fun_bind_level rule_level val_bind_level (FullExp-F.Case subject rules at)

pub exp_repeats-Fn : (rules : List FullRule) (at : At)
    → exp_repeats (full_exp.Fn rules at) ≡ all_repeats (map rule_repeats rules)
exp_repeats-Fn rules at =
    ap exp_repeats (sym (full_exp.rolls-Fn rules at))
    ∙ fold-roll-FullExp _ _ _ _ _ _ _ _ dec_level exp_level exp_item_level clause_level exp_field_level fun_bind_level rule_level val_bind_level (FullExp-F.Fn rules at)

pub exp_repeats-Typed : (inner : FullExp) (ty : FullTy) (at : At)
    → exp_repeats (full_exp.Typed inner ty at) ≡ exp_repeats inner ++ ty_repeats ty
exp_repeats-Typed inner ty at =
    ap exp_repeats (sym (full_exp.rolls-Typed inner ty at))
    ∙ fold-roll-FullExp _ _ _ _ _ _ _ _ dec_level exp_level exp_item_level clause_level exp_field_level fun_bind_level rule_level val_bind_level (FullExp-F.Typed inner ty at)

pub exp_repeats-AndAlso : (a b : FullExp) (at : At)
    → exp_repeats (full_exp.AndAlso a b at) ≡ exp_repeats a ++ exp_repeats b
exp_repeats-AndAlso a b at =
    ap exp_repeats (sym (full_exp.rolls-AndAlso a b at))
    ∙ fold-roll-FullExp _ _ _ _ _ _ _ _ dec_level exp_level exp_item_level clause_level exp_field_level fun_bind_level rule_level val_bind_level (FullExp-F.AndAlso a b at)

pub exp_repeats-OrElse : (a b : FullExp) (at : At)
    → exp_repeats (full_exp.OrElse a b at) ≡ exp_repeats a ++ exp_repeats b
exp_repeats-OrElse a b at =
    ap exp_repeats (sym (full_exp.rolls-OrElse a b at))
    ∙ fold-roll-FullExp _ _ _ _ _ _ _ _ dec_level exp_level exp_item_level clause_level exp_field_level fun_bind_level rule_level val_bind_level (FullExp-F.OrElse a b at)

pub exp_repeats-While : (a b : FullExp) (at : At)
    → exp_repeats (full_exp.While a b at) ≡ exp_repeats a ++ exp_repeats b
exp_repeats-While a b at =
    ap exp_repeats (sym (full_exp.rolls-While a b at))
    ∙ fold-roll-FullExp _ _ _ _ _ _ _ _ dec_level exp_level exp_item_level clause_level exp_field_level fun_bind_level rule_level val_bind_level (FullExp-F.While a b at)

pub exp_repeats-If : (a b c : FullExp) (at : At)
    → exp_repeats (full_exp.If a b c at) ≡ exp_repeats a ++ (exp_repeats b ++ exp_repeats c)
exp_repeats-If a b c at =
    ap exp_repeats (sym (full_exp.rolls-If a b c at))
    ∙ fold-roll-FullExp _ _ _ _ _ _ _ _ dec_level exp_level exp_item_level clause_level exp_field_level fun_bind_level rule_level val_bind_level (FullExp-F.If a b c at)

pub dec_repeats-Val : (tyvars : List Name) (binds : List FullValBind) (at : At)
    → dec_repeats (full_dec.Val tyvars binds at) ≡ tyvar_repeats tyvars ++ all_repeats (map val_bind_repeats binds)
dec_repeats-Val tyvars binds at =
    ap dec_repeats (sym (full_dec.rolls-Val tyvars binds at))
    ∙ fold-roll-FullDec _ _ _ _ _ _ _ _ dec_level exp_level exp_item_level clause_level exp_field_level fun_bind_level rule_level val_bind_level (FullDec-F.Val tyvars binds at)

pub dec_repeats-Fun : (tyvars : List Name) (binds : List FullFunBind) (at : At)
    → dec_repeats (full_dec.Fun tyvars binds at) ≡ tyvar_repeats tyvars ++ all_repeats (map fun_bind_repeats binds)
dec_repeats-Fun tyvars binds at =
    ap dec_repeats (sym (full_dec.rolls-Fun tyvars binds at))
    ∙ fold-roll-FullDec _ _ _ _ _ _ _ _ dec_level exp_level exp_item_level clause_level exp_field_level fun_bind_level rule_level val_bind_level (FullDec-F.Fun tyvars binds at)

pub dec_repeats-Local : (hidden : List FullDec) (decs : List FullDec) (at : At)
    → dec_repeats (full_dec.Local hidden decs at) ≡ all_repeats (map dec_repeats hidden) ++ all_repeats (map dec_repeats decs)
dec_repeats-Local hidden decs at =
    ap dec_repeats (sym (full_dec.rolls-Local hidden decs at))
    ∙ fold-roll-FullDec _ _ _ _ _ _ _ _ dec_level exp_level exp_item_level clause_level exp_field_level fun_bind_level rule_level val_bind_level (FullDec-F.Local hidden decs at)

pub exp_field_member-kept : (each : FullExpField) → exp_field_member each ≡ member (out-FullExpField each).label (exp_repeats (out-FullExpField each).exp)
exp_field_member-kept each =
    ap exp_field_member (sym (roll-out-FullExpField each))
    ∙ fold-roll-FullExpField _ _ _ _ _ _ _ _ dec_level exp_level exp_item_level clause_level exp_field_level fun_bind_level rule_level val_bind_level (out-FullExpField each)

pub rule_repeats-kept : (each : FullRule) → rule_repeats each ≡ pat_repeats (out-FullRule each).pat ++ exp_repeats (out-FullRule each).exp
rule_repeats-kept each =
    ap rule_repeats (sym (roll-out-FullRule each))
    ∙ fold-roll-FullRule _ _ _ _ _ _ _ _ dec_level exp_level exp_item_level clause_level exp_field_level fun_bind_level rule_level val_bind_level (out-FullRule each)

pub val_bind_repeats-kept : (bind : FullValBind) → val_bind_repeats bind ≡ pat_repeats (out-FullValBind bind).pat ++ exp_repeats (out-FullValBind bind).exp
val_bind_repeats-kept bind =
    ap val_bind_repeats (sym (roll-out-FullValBind bind))
    ∙ fold-roll-FullValBind _ _ _ _ _ _ _ _ dec_level exp_level exp_item_level clause_level exp_field_level fun_bind_level rule_level val_bind_level (out-FullValBind bind)

pub clause_repeats-kept : (clause : FullClause) → clause_repeats clause ≡ head_repeats (out-FullClause clause).head
    ++ (optional_ty (out-FullClause clause).ty ++ exp_repeats (out-FullClause clause).body)
clause_repeats-kept clause =
    ap clause_repeats (sym (roll-out-FullClause clause))
    ∙ fold-roll-FullClause _ _ _ _ _ _ _ _ dec_level exp_level exp_item_level clause_level exp_field_level fun_bind_level rule_level val_bind_level (out-FullClause clause)

pub fun_bind_repeats-kept : (bind : FullFunBind) → fun_bind_repeats bind ≡ all_repeats (map clause_repeats (out-FullFunBind bind).clauses)
fun_bind_repeats-kept bind =
    ap fun_bind_repeats (sym (roll-out-FullFunBind bind))
    ∙ fold-roll-FullFunBind _ _ _ _ _ _ _ _ dec_level exp_level exp_item_level clause_level exp_field_level fun_bind_level rule_level val_bind_level (out-FullFunBind bind)

pub ruleset exp_forms = (
  earliest_with-append,
  exp_repeats-Record,
  exp_repeats-Tuple,
  exp_repeats-Sequence,
  exp_repeats-List,
  exp_repeats-Let,
  exp_repeats-Run,
  exp_repeats-Handle,
  exp_repeats-Case,
  exp_repeats-Fn,
  exp_repeats-Typed,
  exp_repeats-AndAlso,
  exp_repeats-OrElse,
  exp_repeats-While,
  exp_repeats-If,
)

pub ruleset dec_forms = (
  earliest_with-append,
  dec_repeats-Val,
  dec_repeats-Fun,
  dec_repeats-Local,
)

pub ruleset rule_form = (earliest_with-append, rule_repeats-kept)

pub ruleset val_bind_form = (earliest_with-append, val_bind_repeats-kept)

pub ruleset clause_form = (earliest_with-append, clause_repeats-kept)

pub ruleset fun_bind_form = (fun_bind_repeats-kept)
