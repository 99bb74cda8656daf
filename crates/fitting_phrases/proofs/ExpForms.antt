-- What an expression or a declaration becomes has names that fit, if its names and what its parts become have.
use Rattle.std.proofs.Common.{◌≡◌, ℕ, ◌+◌, ◌≤◌, ◌^◌, List, [], Option, length, refl, sym, subst, map, flat_map, arith}
use Rattle.std.proofs.lemmas.List.{length-map}
use Rattle.std.specs.Prelude.{codes}
use Rattle.sml_trees.specs.declared.name.At.{At}
use Rattle.sml_trees.specs.declared.name.Name.{Name}
use Rattle.sml_trees.specs.declared.name.LongName.{LongName}
use Rattle.sml_trees.specs.declared.full_ty.FullTy.{FullTy}
use Rattle.sml_trees.specs.declared.full_ty.FullTypBind.{FullTypBind}
use Rattle.sml_trees.specs.declared.full_ty.FullDatBind.{FullDatBind}
use Rattle.sml_trees.specs.declared.full_ty.FullExBind.{FullExBind}
use Rattle.sml_trees.specs.declared.full_ty.OpName.{OpName}
use Rattle.sml_trees.specs.declared.full_ty.OpLong.{OpLong}
use Rattle.sml_trees.specs.declared.full_pat.Constant.{Constant}
use Rattle.sml_trees.specs.declared.full_pat.Fixity.{Fixity}
use Rattle.sml_trees.specs.declared.full_pat.FullPat.{FullPat}
use Rattle.sml_trees.specs.declared.full_exp.FullHead.{FullHead}
use Rattle.sml_trees.specs.declared.full_exp.FullHead.TheVariants as head
use Rattle.sml_trees.specs.declared.full_exp.FullDec.{FullDec}
use Rattle.sml_trees.specs.declared.full_exp.FullDec.TheFolds.{fold-roll-FullClause, fold-roll-FullExpField, fold-roll-FullFunBind, fold-roll-FullRule, fold-roll-FullValBind}
use Rattle.sml_trees.specs.declared.full_exp.FullDec.TheVariants as d
use Rattle.sml_trees.specs.declared.full_exp.FullExp.{FullExp}
use Rattle.sml_trees.specs.declared.full_exp.FullExp.TheVariants as e
use Rattle.sml_trees.specs.declared.full_exp.FullExpItem.{FullExpItem}
use Rattle.sml_trees.specs.declared.full_exp.FullExpItem.TheVariants as item
use Rattle.sml_trees.specs.declared.full_exp.FullClause.{FullClause, roll-FullClause}
use Rattle.sml_trees.specs.declared.full_exp.FullExpField.{FullExpField, roll-FullExpField}
use Rattle.sml_trees.specs.declared.full_exp.FullFunBind.{FullFunBind, roll-FullFunBind}
use Rattle.sml_trees.specs.declared.full_exp.FullRule.{FullRule, roll-FullRule}
use Rattle.sml_trees.specs.declared.full_exp.FullValBind.{FullValBind, roll-FullValBind}
use Rattle.bare_forms.specs.declared.placed.PlacedExp.{PlacedExp}
use Rattle.bare_forms.specs.Types.{bare_ty, bare_typ_bind, bare_dat_bind, bare_ex_bind}
use Rattle.bare_forms.specs.Patterns.{bare_pat}
use Rattle.bare_forms.specs.Nodes.{long_exp, exp_fields_from, body_exp}
use Rattle.bare_forms.specs.Expressions.{PlacedDec, head_name, head_args, plain_rules, rec_binds, rec_rules, rule_of, decs_of, sequence_dec, dec_level, exp_level, exp_item_level, clause_level, exp_field_level, fun_bind_level, rule_level, val_bind_level, bare_dec, bare_exp, bare_item, bare_clause, bare_field, bare_fun_bind, bare_rule, bare_val_bind}
use Rattle.bare_forms.proofs.ExpLevels.{bare_exp-Constant, bare_exp-Long, bare_exp-Record, bare_exp-Unit, bare_exp-Tuple, bare_exp-Sequence, bare_exp-Paren, bare_exp-List, bare_exp-Let, bare_exp-Run, bare_exp-Typed, bare_exp-AndAlso, bare_exp-OrElse, bare_exp-Handle, bare_exp-Raise, bare_exp-If, bare_exp-While, bare_exp-Case, bare_exp-Fn, bare_dec-Val, bare_dec-Fun, bare_dec-Types, bare_dec-Datatypes, bare_dec-Replication, bare_dec-Exceptions, bare_dec-Local, bare_dec-Open, bare_dec-Infix, bare_dec-Infixr, bare_dec-Nonfix, bare_item-Atom, bare_item-Operator}
use Rattle.body_laws.proofs.Signatures.{Each, each-map, each-flat}
use Rattle.fitting_names.proofs.Texts.{IsFew}
use Rattle.fitting_names.proofs.Nodes as node
use Rattle.fitting_names.proofs.Nodes.{FitName, FitLong}
use Rattle.fitting_names.proofs.TyForms.{TyIs, IfTy}
use Rattle.fitting_names.proofs.PatForms.{PatIs, pair_fits}
use Rattle.fitting_names.proofs.PatForms as pats
use Rattle.fitting_names.proofs.SigForms.{DatIs, dats_are}
use Rattle.fitting_phrases.proofs.Bindings.{TypBindIs, typs_are, ExBindIs, exs_are}
use Rattle.fitting_phrases.proofs.Derived.{FitPlaced, FitRule, FitField, FitDec, FitPart, FitClause, FitCounted, value_fits, good-constant, good-unit, good-tuple, good-case, good-if, good-while, good-list, good-sequence, good-body, good-run, good-fun, good-result, good-firsts, good-recs}

-- what each becomes has names that fit

abbrev pub ExpIs : FullExp → Type 0
ExpIs full = FitPlaced (bare_exp full)

abbrev pub DecIs : FullDec → Type 0
DecIs full = Each FitDec (bare_dec full).decs

abbrev pub ItemIs : FullExpItem → Type 0
ItemIs full = FitPart (bare_item full)

abbrev pub FieldIs : FullExpField → Type 0
FieldIs full = FitField (bare_field full)

abbrev pub RuleIs : FullRule → Type 0
RuleIs full = FitRule (bare_rule full)

abbrev pub ClauseIs : FullClause → Type 0
ClauseIs full = FitClause (bare_clause full)

abbrev pub FunIs : FullFunBind → Type 0
FunIs full = FitRule (bare_fun_bind full)

abbrev pub ValIs : FullValBind → Type 0
ValIs full = FitCounted (bare_val_bind full)

pub record HeadIs (full : FullHead) : Type 0 where
  pub name : FitName (head_name full)
  pub args : Each pats.FitPlaced (head_args full)
  pub few : 1 + length (head_args full) ≤ 2 ^ 64

-- ---- expressions

exp_by : {one made : PlacedExp} → one ≡ made → FitPlaced made → FitPlaced one
exp_by same is = subst FitPlaced (sym same) is

pub exp-Constant : (value : Constant) (at : At) → ExpIs (e.Constant value at)
exp-Constant value at = exp_by (bare_exp-Constant value at) (good-constant value at)

pub exp-Long : (id : OpLong) (at : At) → FitLong id.long → ExpIs (e.Long id at)
exp-Long id at is = exp_by (bare_exp-Long id at) (node.exp-Long id.long at is)

pub exp-Record : (fields : List FullExpField) (at : At) → Each FieldIs fields → ExpIs (e.Record fields at)
exp-Record fields at all =
    exp_by (bare_exp-Record fields at)
    (node.exp-Record (map bare_field fields) at (each-map FitField bare_field fields all))

pub exp-Unit : (at : At) → ExpIs (e.Unit at)
exp-Unit at = exp_by (bare_exp-Unit at) (good-unit at)

pub exp-Tuple : (parts : List FullExp) (at : At) → IsFew parts → Each ExpIs parts → ExpIs (e.Tuple parts at)
exp-Tuple parts at few all =
    let same : length (map bare_exp parts) ≡ length parts = length-map parts bare_exp in
    exp_by (bare_exp-Tuple parts at)
    (node.exp-Record (exp_fields_from at 1 (map bare_exp parts)) at
    (good-tuple at 1 (map bare_exp parts) (omega (arith, same, few)) (each-map FitPlaced bare_exp parts all)))

pub exp-Sequence : (exps : List FullExp) (at : At) → Each ExpIs exps → ExpIs (e.Sequence exps at)
exp-Sequence exps at all =
    exp_by (bare_exp-Sequence exps at) (good-sequence at (map bare_exp exps) (each-map FitPlaced bare_exp exps all))

pub exp-List : (items : List FullExp) (at : At) → Each ExpIs items → ExpIs (e.List items at)
exp-List items at all =
    exp_by (bare_exp-List items at) (good-list at (map bare_exp items) (each-map FitPlaced bare_exp items all))

pub exp-Paren : (inner : FullExp) (at : At) → ExpIs inner → ExpIs (e.Paren inner at)
exp-Paren inner at is = exp_by (bare_exp-Paren inner at) is

-- declarations one after another
pub sequence-is : {A : Type 0} (bare : A → PlacedDec) (decs : List A) (at : At)
    → Each (λ x. Each FitDec (bare x).decs) decs
    → FitDec (sequence_dec at (map bare decs))
sequence-is bare decs at all =
    node.dec-Sequence (flat_map decs_of (map bare decs)) at
    (each-flat FitDec decs_of (map bare decs) (each-map (λ found. Each FitDec (decs_of found)) bare decs all))

pub exp-Let : (decs : List FullDec) (exps : List FullExp) (at : At) → Each DecIs decs → Each ExpIs exps
    → ExpIs (e.Let decs exps at)
exp-Let decs exps at first second =
    exp_by (bare_exp-Let decs exps at)
    (node.exp-Let (sequence_dec at (map bare_dec decs)) (body_exp at (map bare_exp exps)) at
    (sequence-is bare_dec decs at first) (good-body at (map bare_exp exps) (each-map FitPlaced bare_exp exps second)))

pub exp-Run : (items : List FullExpItem) (at : At) → Each ItemIs items → ExpIs (e.Run items at)
exp-Run items at all =
    exp_by (bare_exp-Run items at) (good-run at (map bare_item items) (each-map FitPart bare_item items all))

pub exp-Typed : (inner : FullExp) (ty : FullTy) (at : At) → ExpIs inner → TyIs ty → ExpIs (e.Typed inner ty at)
exp-Typed inner ty at is so =
    exp_by (bare_exp-Typed inner ty at) (node.exp-Typed (bare_exp inner).exp (bare_ty ty) at is so)

pub exp-AndAlso : (left right : FullExp) (at : At) → ExpIs left → ExpIs right → ExpIs (e.AndAlso left right at)
exp-AndAlso left right at first second =
    exp_by (bare_exp-AndAlso left right at)
    (good-if at (bare_exp left).exp (bare_exp right).exp (long_exp at (codes "false")) first second
    (value_fits at (codes "false") refl))

pub exp-OrElse : (left right : FullExp) (at : At) → ExpIs left → ExpIs right → ExpIs (e.OrElse left right at)
exp-OrElse left right at first second =
    exp_by (bare_exp-OrElse left right at)
    (good-if at (bare_exp left).exp (long_exp at (codes "true")) (bare_exp right).exp first
    (value_fits at (codes "true") refl) second)

pub exp-Handle : (inner : FullExp) (rules : List FullRule) (at : At) → ExpIs inner → Each RuleIs rules
    → ExpIs (e.Handle inner rules at)
exp-Handle inner rules at is all =
    exp_by (bare_exp-Handle inner rules at)
    (node.exp-Handle (bare_exp inner).exp (map bare_rule rules) at is (each-map FitRule bare_rule rules all))

pub exp-Raise : (inner : FullExp) (at : At) → ExpIs inner → ExpIs (e.Raise inner at)
exp-Raise inner at is = exp_by (bare_exp-Raise inner at) (node.exp-Raise (bare_exp inner).exp at is)

pub exp-If : (test right wrong : FullExp) (at : At) → ExpIs test → ExpIs right → ExpIs wrong
    → ExpIs (e.If test right wrong at)
exp-If test right wrong at first second third =
    exp_by (bare_exp-If test right wrong at)
    (good-if at (bare_exp test).exp (bare_exp right).exp (bare_exp wrong).exp first second third)

pub exp-While : (test body : FullExp) (at : At) → ExpIs test → ExpIs body → ExpIs (e.While test body at)
exp-While test body at first second =
    exp_by (bare_exp-While test body at) (good-while at (bare_exp test).exp (bare_exp body).exp first second)

pub exp-Case : (subject : FullExp) (rules : List FullRule) (at : At) → ExpIs subject → Each RuleIs rules
    → ExpIs (e.Case subject rules at)
exp-Case subject rules at is all =
    exp_by (bare_exp-Case subject rules at)
    (good-case at (bare_exp subject).exp (map bare_rule rules) is (each-map FitRule bare_rule rules all))

pub exp-Fn : (rules : List FullRule) (at : At) → Each RuleIs rules → ExpIs (e.Fn rules at)
exp-Fn rules at all =
    exp_by (bare_exp-Fn rules at) (node.exp-Fn (map bare_rule rules) at (each-map FitRule bare_rule rules all))

pub item-Atom : (inner : FullExp) → ExpIs inner → ItemIs (item.Atom inner)
item-Atom inner is = subst FitPart (sym (bare_item-Atom inner)) is

pub item-Operator : (called : Name) (fixity : Fixity) → FitName called → ItemIs (item.Operator called fixity)
item-Operator called fixity is = subst FitPart (sym (bare_item-Operator called fixity)) is

pub exp_field-is : (name : Name) (value : FullExp) → FitName name → ExpIs value
    → FieldIs (roll-FullExpField (record { label = name; exp = value }))
unfolding bare_dec bare_exp bare_item bare_clause bare_field bare_fun_bind bare_rule bare_val_bind
exp_field-is name value called is =
    subst FitField (sym (fold-roll-FullExpField _ _ _ _ _ _ _ _ dec_level exp_level exp_item_level clause_level
    exp_field_level fun_bind_level rule_level val_bind_level (record { label = name; exp = value })))
    (node.good-exp_field name (bare_exp value).exp called is)

pub rule-is : (found : FullPat) (value : FullExp) (place : At) → PatIs found → ExpIs value
    → RuleIs (roll-FullRule (record { pat = found; exp = value; at = place }))
unfolding bare_dec bare_exp bare_item bare_clause bare_field bare_fun_bind bare_rule bare_val_bind
rule-is found value place first second =
    subst FitRule (sym (fold-roll-FullRule _ _ _ _ _ _ _ _ dec_level exp_level exp_item_level clause_level
    exp_field_level fun_bind_level rule_level val_bind_level (record { pat = found; exp = value; at = place })))
    (node.good-rule (bare_pat found).pat (bare_exp value).exp first second)

-- ---- clauses and bindings

pub head-Prefix : (called : OpName) (args : List FullPat) → FitName called.name → IsFew args → Each PatIs args
    → HeadIs (head.Prefix called args)
head-Prefix called args is few all =
    let same : length (map bare_pat args) ≡ length args = length-map args bare_pat in
    record { name = is; args = each-map pats.FitPlaced bare_pat args all; few = omega (arith, same, few) }

pub head-Infix : (left : FullPat) (called : Name) (right : FullPat) → FitName called → PatIs left → PatIs right
    → HeadIs (head.Infix left called right)
head-Infix left called right is first second = record {
  name = is;
  args = (pair_fits (bare_pat left).at (bare_pat left).pat (bare_pat right).pat first second, tt);
  few = omega arith;
}

pub head-ParenInfix : (left : FullPat) (called : Name) (right : FullPat) (args : List FullPat) → FitName called
    → PatIs left → PatIs right → IsFew args → Each PatIs args → HeadIs (head.ParenInfix left called right args)
head-ParenInfix left called right args is first second few all =
    let same : length (map bare_pat args) ≡ length args = length-map args bare_pat in
    record {
      name = is;
      args = (
        pair_fits (bare_pat left).at (bare_pat left).pat (bare_pat right).pat first second,
        each-map pats.FitPlaced bare_pat args all,
      );
      few = omega (arith, same, few);
    }

pub clause-is : (found : FullHead) (ty : Option FullTy) (exp : FullExp) (place : At) → HeadIs found → IfTy ty
    → ExpIs exp
    → ClauseIs (roll-FullClause (record { head = found; ty = ty; body = exp; at = place }))
unfolding bare_dec bare_exp bare_item bare_clause bare_field bare_fun_bind bare_rule bare_val_bind
clause-is found ty exp place first given second =
    subst FitClause (sym (fold-roll-FullClause _ _ _ _ _ _ _ _ dec_level exp_level exp_item_level clause_level
    exp_field_level fun_bind_level rule_level val_bind_level
    (record { head = found; ty = ty; body = exp; at = place })))
    (record {
      name = first.name;
      args = first.args;
      few = first.few;
      body = good-result ty (bare_exp exp) given second;
    })

pub fun_bind-is : (found : List FullClause) (place : At) → Each ClauseIs found
    → FunIs (roll-FullFunBind (record { clauses = found; at = place }))
unfolding bare_dec bare_exp bare_item bare_clause bare_field bare_fun_bind bare_rule bare_val_bind
fun_bind-is found place all =
    subst FitRule (sym (fold-roll-FullFunBind _ _ _ _ _ _ _ _ dec_level exp_level exp_item_level clause_level
    exp_field_level fun_bind_level rule_level val_bind_level (record { clauses = found; at = place })))
    (good-fun place (map bare_clause found) (each-map FitClause bare_clause found all))

pub val_bind-is : (count : ℕ) (found : FullPat) (value : FullExp) (place : At) → PatIs found → ExpIs value
    → ValIs (roll-FullValBind (record { recs = count; pat = found; exp = value; at = place }))
unfolding bare_dec bare_exp bare_item bare_clause bare_field bare_fun_bind bare_rule bare_val_bind
val_bind-is count found value place first second =
    subst FitCounted (sym (fold-roll-FullValBind _ _ _ _ _ _ _ _ dec_level exp_level exp_item_level clause_level
    exp_field_level fun_bind_level rule_level val_bind_level
    (record { recs = count; pat = found; exp = value; at = place })))
    (node.good-rule (bare_pat found).pat (bare_exp value).exp first second)

-- ---- declarations

dec_by : {one made : PlacedDec} → one ≡ made → Each FitDec made.decs → Each FitDec one.decs
dec_by same all = subst (λ (found : PlacedDec). Each FitDec found.decs) (sym same) all

pub dec-Val : (tyvars : List Name) (binds : List FullValBind) (at : At) → Each FitName tyvars → Each ValIs binds
    → DecIs (d.Val tyvars binds at)
dec-Val tyvars binds at vars all =
    let bare = map bare_val_bind binds in
    let each = each-map FitCounted bare_val_bind binds all in
    dec_by (bare_dec-Val tyvars binds at) (
      node.dec-Val tyvars (plain_rules bare) (rec_rules bare) at vars (good-firsts bare each)
          (each-map FitRule rule_of (rec_binds bare) (good-recs bare each)),
      tt,
    )

pub dec-Fun : (tyvars : List Name) (binds : List FullFunBind) (at : At) → Each FitName tyvars → Each FunIs binds
    → DecIs (d.Fun tyvars binds at)
dec-Fun tyvars binds at vars all =
    dec_by (bare_dec-Fun tyvars binds at)
    (node.dec-Val tyvars [] (map bare_fun_bind binds) at vars tt (each-map FitRule bare_fun_bind binds all), tt)

pub dec-Types : (binds : List FullTypBind) (at : At) → Each TypBindIs binds → DecIs (d.Types binds at)
dec-Types binds at all =
    dec_by (bare_dec-Types binds at) (node.dec-Types (map bare_typ_bind binds) at (typs_are binds all), tt)

pub dec-Datatypes : (binds : List FullDatBind) (at : At) → Each DatIs binds → DecIs (d.Datatypes binds at)
dec-Datatypes binds at all =
    dec_by (bare_dec-Datatypes binds at) (node.dec-Datatypes (map bare_dat_bind binds) at (dats_are binds all), tt)

pub dec-Replication : (called : Name) (long : LongName) (at : At) → FitName called → FitLong long
    → DecIs (d.Replication called long at)
dec-Replication called long at first second =
    dec_by (bare_dec-Replication called long at) (node.dec-Replication called long at first second, tt)

pub dec-Exceptions : (binds : List FullExBind) (at : At) → Each ExBindIs binds → DecIs (d.Exceptions binds at)
dec-Exceptions binds at all =
    dec_by (bare_dec-Exceptions binds at) (node.dec-Exceptions (map bare_ex_bind binds) at (exs_are binds all), tt)

pub dec-Local : (hidden decs : List FullDec) (at : At) → Each DecIs hidden → Each DecIs decs
    → DecIs (d.Local hidden decs at)
dec-Local hidden decs at first second =
    dec_by (bare_dec-Local hidden decs at) (
      node.dec-Local (sequence_dec at (map bare_dec hidden)) (sequence_dec at (map bare_dec decs)) at
          (sequence-is bare_dec hidden at first) (sequence-is bare_dec decs at second),
      tt,
    )

pub dec-Open : (longs : List LongName) (at : At) → Each FitLong longs → DecIs (d.Open longs at)
dec-Open longs at all = dec_by (bare_dec-Open longs at) (node.dec-Open longs at all, tt)

pub dec-Infix : (strength : Option ℕ) (names : List Name) (at : At) → DecIs (d.Infix strength names at)
dec-Infix strength names at = dec_by (bare_dec-Infix strength names at) tt

pub dec-Infixr : (strength : Option ℕ) (names : List Name) (at : At) → DecIs (d.Infixr strength names at)
dec-Infixr strength names at = dec_by (bare_dec-Infixr strength names at) tt

pub dec-Nonfix : (names : List Name) (at : At) → DecIs (d.Nonfix names at)
dec-Nonfix names at = dec_by (bare_dec-Nonfix names at) tt
