-- What an expression or a declaration becomes has constants that fit, if what its parts become has.
use Rattle.std.proofs.Common.{◌≡◌, ℕ, List, [], ◌∷◌, Option, Some, None, sym, subst, map, flat_map}
use Rattle.std.specs.Prelude.{codes}
use Rattle.sml_trees.specs.declared.name.At.{At}
use Rattle.sml_trees.specs.declared.name.Name.{Name}
use Rattle.sml_trees.specs.declared.name.LongName.{LongName}
use Rattle.sml_trees.specs.declared.full_ty.FullTy.{FullTy}
use Rattle.sml_trees.specs.declared.full_ty.FullTypBind.{FullTypBind}
use Rattle.sml_trees.specs.declared.full_ty.FullDatBind.{FullDatBind}
use Rattle.sml_trees.specs.declared.full_ty.FullExBind.{FullExBind}
use Rattle.sml_trees.specs.declared.full_ty.OpName.{OpName}
use Rattle.sml_trees.specs.declared.full_ty.OpLong.{OpLong}
use Rattle.sml_trees.specs.declared.full_pat.Constant.{Constant}
use Rattle.sml_trees.specs.declared.full_pat.Fixity.{Fixity}
use Rattle.sml_trees.specs.declared.full_pat.FullPat.{FullPat}
use Rattle.sml_trees.specs.declared.full_exp.FullHead.{FullHead}
use Rattle.sml_trees.specs.declared.full_exp.FullHead.TheVariants as head
use Rattle.sml_trees.specs.declared.full_exp.FullDec.{FullDec}
use Rattle.sml_trees.specs.declared.full_exp.FullDec.TheFolds.{fold-roll-FullClause, fold-roll-FullExpField, fold-roll-FullFunBind, fold-roll-FullRule, fold-roll-FullValBind}
use Rattle.sml_trees.specs.declared.full_exp.FullDec.TheVariants as d
use Rattle.sml_trees.specs.declared.full_exp.FullExp.{FullExp}
use Rattle.sml_trees.specs.declared.full_exp.FullExp.TheVariants as e
use Rattle.sml_trees.specs.declared.full_exp.FullExpItem.{FullExpItem}
use Rattle.sml_trees.specs.declared.full_exp.FullExpItem.TheVariants as item
use Rattle.sml_trees.specs.declared.full_exp.FullClause.{FullClause, roll-FullClause}
use Rattle.sml_trees.specs.declared.full_exp.FullExpField.{FullExpField, roll-FullExpField}
use Rattle.sml_trees.specs.declared.full_exp.FullFunBind.{FullFunBind, roll-FullFunBind}
use Rattle.sml_trees.specs.declared.full_exp.FullRule.{FullRule, roll-FullRule}
use Rattle.sml_trees.specs.declared.full_exp.FullValBind.{FullValBind, roll-FullValBind}
use Rattle.sml_trees.specs.declared.exp.Dec.{Dec}
use Rattle.bare_forms.specs.declared.placed.PlacedExp.{PlacedExp}
use Rattle.bare_forms.specs.Types.{bare_ty, bare_typ_bind, bare_dat_bind, bare_ex_bind}
use Rattle.bare_forms.specs.Patterns.{long_at, bare_pat, pair_pat}
use Rattle.bare_forms.specs.Nodes.{long_exp, exp_fields_from, body_exp}
use Rattle.bare_forms.specs.Expressions.{PlacedDec, head_args, plain_rules, rec_binds, rec_rules, rule_of, decs_of, sequence_dec, dec_level, exp_level, exp_item_level, clause_level, exp_field_level, fun_bind_level, rule_level, val_bind_level, bare_dec, bare_exp, bare_item, bare_clause, bare_field, bare_fun_bind, bare_rule, bare_val_bind}
use Rattle.bare_forms.proofs.ExpLevels.{bare_exp-Constant, bare_exp-Long, bare_exp-Record, bare_exp-Unit, bare_exp-Tuple, bare_exp-Sequence, bare_exp-Paren, bare_exp-List, bare_exp-Let, bare_exp-Run, bare_exp-Typed, bare_exp-AndAlso, bare_exp-OrElse, bare_exp-Handle, bare_exp-Raise, bare_exp-If, bare_exp-While, bare_exp-Case, bare_exp-Fn, bare_dec-Val, bare_dec-Fun, bare_dec-Types, bare_dec-Datatypes, bare_dec-Replication, bare_dec-Exceptions, bare_dec-Local, bare_dec-Open, bare_dec-Infix, bare_dec-Infixr, bare_dec-Nonfix, bare_item-Atom, bare_item-Operator}
use Rattle.body_laws.proofs.Signatures.{Each, each-map, each-flat}
use Rattle.fitting_forms.proofs.PatForms.{PatIs, FitConstant, good-pair}
use Rattle.fitting_forms.proofs.PatForms as pats
use Rattle.fitting_forms.proofs.ExpNodes.{FitPlaced, FitRule, FitField, FitDec, FitPart, FitClause, FitCounted, good-field, good-rule, good-Long, good-Record, good-Let, good-Typed, good-Handle, good-Raise, good-Fn, good-dec_Val, good-dec_Types, good-dec_Datatypes, good-dec_Replication, good-dec_Exceptions, good-dec_Open, good-dec_Local, good-dec_Sequence, good-constant, good-unit, good-tuple, good-case, good-if, good-while, good-list, good-sequence, good-body, good-run, good-fun, good-result, good-firsts, good-recs}

-- what each becomes has constants that fit

abbrev pub ExpIs : FullExp → Type 0
ExpIs full = FitPlaced (bare_exp full)

abbrev pub DecIs : FullDec → Type 0
DecIs full = Each FitDec (bare_dec full).decs

abbrev pub ItemIs : FullExpItem → Type 0
ItemIs full = FitPart (bare_item full)

abbrev pub FieldIs : FullExpField → Type 0
FieldIs full = FitField (bare_field full)

abbrev pub RuleIs : FullRule → Type 0
RuleIs full = FitRule (bare_rule full)

abbrev pub ClauseIs : FullClause → Type 0
ClauseIs full = FitClause (bare_clause full)

abbrev pub FunIs : FullFunBind → Type 0
FunIs full = FitRule (bare_fun_bind full)

abbrev pub ValIs : FullValBind → Type 0
ValIs full = FitCounted (bare_val_bind full)

abbrev pub HeadIs : FullHead → Type 0
HeadIs full = Each pats.FitPlaced (head_args full)

-- ---- expressions

exp_by : {one made : PlacedExp} → one ≡ made → FitPlaced made → FitPlaced one
exp_by same is = subst FitPlaced (sym same) is

pub exp-Constant : (value : Constant) (at : At) → FitConstant value → ExpIs (e.Constant value at)
exp-Constant value at is = exp_by (bare_exp-Constant value at) (good-constant value at is)

pub exp-Long : (id : OpLong) (at : At) → ExpIs (e.Long id at)
exp-Long id at = exp_by (bare_exp-Long id at) (good-Long id.long at)

pub exp-Record : (fields : List FullExpField) (at : At) → Each FieldIs fields → ExpIs (e.Record fields at)
exp-Record fields at all =
    exp_by (bare_exp-Record fields at) (good-Record (map bare_field fields) at (each-map FitField bare_field fields all))

pub exp-Unit : (at : At) → ExpIs (e.Unit at)
exp-Unit at = exp_by (bare_exp-Unit at) (good-unit at)

pub exp-Tuple : (parts : List FullExp) (at : At) → Each ExpIs parts → ExpIs (e.Tuple parts at)
exp-Tuple parts at all =
    exp_by (bare_exp-Tuple parts at)
    (good-Record (exp_fields_from at 1 (map bare_exp parts)) at
    (good-tuple at 1 (map bare_exp parts) (each-map FitPlaced bare_exp parts all)))

pub exp-Sequence : (exps : List FullExp) (at : At) → Each ExpIs exps → ExpIs (e.Sequence exps at)
exp-Sequence exps at all =
    exp_by (bare_exp-Sequence exps at) (good-sequence at (map bare_exp exps) (each-map FitPlaced bare_exp exps all))

pub exp-List : (items : List FullExp) (at : At) → Each ExpIs items → ExpIs (e.List items at)
exp-List items at all =
    exp_by (bare_exp-List items at) (good-list at (map bare_exp items) (each-map FitPlaced bare_exp items all))

pub exp-Paren : (inner : FullExp) (at : At) → ExpIs inner → ExpIs (e.Paren inner at)
exp-Paren inner at is = exp_by (bare_exp-Paren inner at) is

-- declarations one after another
pub sequence-is : {A : Type 0} (bare : A → PlacedDec) (decs : List A) (at : At) → Each (λ x. Each FitDec (bare x).decs) decs
    → FitDec (sequence_dec at (map bare decs))
sequence-is bare decs at all =
    good-dec_Sequence (flat_map decs_of (map bare decs)) at
    (each-flat FitDec decs_of (map bare decs) (each-map (λ found. Each FitDec (decs_of found)) bare decs all))

pub exp-Let : (decs : List FullDec) (exps : List FullExp) (at : At) → Each DecIs decs → Each ExpIs exps
    → ExpIs (e.Let decs exps at)
exp-Let decs exps at first second =
    exp_by (bare_exp-Let decs exps at)
    (good-Let (sequence_dec at (map bare_dec decs)) (body_exp at (map bare_exp exps)) at
    (sequence-is bare_dec decs at first) (good-body at (map bare_exp exps) (each-map FitPlaced bare_exp exps second)))

pub exp-Run : (items : List FullExpItem) (at : At) → Each ItemIs items → ExpIs (e.Run items at)
exp-Run items at all =
    exp_by (bare_exp-Run items at) (good-run at (map bare_item items) (each-map FitPart bare_item items all))

pub exp-Typed : (inner : FullExp) (ty : FullTy) (at : At) → ExpIs inner → ExpIs (e.Typed inner ty at)
exp-Typed inner ty at is = exp_by (bare_exp-Typed inner ty at) (good-Typed (bare_exp inner).exp (bare_ty ty) at is)

pub exp-AndAlso : (left right : FullExp) (at : At) → ExpIs left → ExpIs right → ExpIs (e.AndAlso left right at)
exp-AndAlso left right at first second =
    exp_by (bare_exp-AndAlso left right at)
    (good-if at (bare_exp left).exp (bare_exp right).exp (long_exp at (codes "false")) first second
    (good-Long (long_at at (codes "false")) at))

pub exp-OrElse : (left right : FullExp) (at : At) → ExpIs left → ExpIs right → ExpIs (e.OrElse left right at)
exp-OrElse left right at first second =
    exp_by (bare_exp-OrElse left right at)
    (good-if at (bare_exp left).exp (long_exp at (codes "true")) (bare_exp right).exp first
    (good-Long (long_at at (codes "true")) at) second)

pub exp-Handle : (inner : FullExp) (rules : List FullRule) (at : At) → ExpIs inner → Each RuleIs rules
    → ExpIs (e.Handle inner rules at)
exp-Handle inner rules at is all =
    exp_by (bare_exp-Handle inner rules at)
    (good-Handle (bare_exp inner).exp (map bare_rule rules) at is (each-map FitRule bare_rule rules all))

pub exp-Raise : (inner : FullExp) (at : At) → ExpIs inner → ExpIs (e.Raise inner at)
exp-Raise inner at is = exp_by (bare_exp-Raise inner at) (good-Raise (bare_exp inner).exp at is)

pub exp-If : (test right wrong : FullExp) (at : At) → ExpIs test → ExpIs right → ExpIs wrong
    → ExpIs (e.If test right wrong at)
exp-If test right wrong at first second third =
    exp_by (bare_exp-If test right wrong at)
    (good-if at (bare_exp test).exp (bare_exp right).exp (bare_exp wrong).exp first second third)

pub exp-While : (test body : FullExp) (at : At) → ExpIs test → ExpIs body → ExpIs (e.While test body at)
exp-While test body at first second =
    exp_by (bare_exp-While test body at) (good-while at (bare_exp test).exp (bare_exp body).exp first second)

pub exp-Case : (subject : FullExp) (rules : List FullRule) (at : At) → ExpIs subject → Each RuleIs rules
    → ExpIs (e.Case subject rules at)
exp-Case subject rules at is all =
    exp_by (bare_exp-Case subject rules at)
    (good-case at (bare_exp subject).exp (map bare_rule rules) is (each-map FitRule bare_rule rules all))

pub exp-Fn : (rules : List FullRule) (at : At) → Each RuleIs rules → ExpIs (e.Fn rules at)
exp-Fn rules at all =
    exp_by (bare_exp-Fn rules at) (good-Fn (map bare_rule rules) at (each-map FitRule bare_rule rules all))

pub item-Atom : (inner : FullExp) → ExpIs inner → ItemIs (item.Atom inner)
item-Atom inner is = subst FitPart (sym (bare_item-Atom inner)) is

pub item-Operator : (called : Name) (fixity : Fixity) → ItemIs (item.Operator called fixity)
item-Operator called fixity = subst FitPart (sym (bare_item-Operator called fixity)) tt

pub exp_field-is : (name : Name) (value : FullExp) → ExpIs value
    → FieldIs (roll-FullExpField (record { label = name; exp = value }))
unfolding bare_dec bare_exp bare_item bare_clause bare_field bare_fun_bind bare_rule bare_val_bind
exp_field-is name value is =
    subst FitField (sym (fold-roll-FullExpField _ _ _ _ _ _ _ _ dec_level exp_level exp_item_level clause_level
    exp_field_level fun_bind_level rule_level val_bind_level (record { label = name; exp = value })))
    (good-field name (bare_exp value).exp is)

pub rule-is : (found : FullPat) (value : FullExp) (place : At) → PatIs found → ExpIs value
    → RuleIs (roll-FullRule (record { pat = found; exp = value; at = place }))
unfolding bare_dec bare_exp bare_item bare_clause bare_field bare_fun_bind bare_rule bare_val_bind
rule-is found value place first second =
    subst FitRule (sym (fold-roll-FullRule _ _ _ _ _ _ _ _ dec_level exp_level exp_item_level clause_level
    exp_field_level fun_bind_level rule_level val_bind_level (record { pat = found; exp = value; at = place })))
    (good-rule (bare_pat found).pat (bare_exp value).exp first second)

-- ---- clauses and bindings

pub head-Prefix : (called : OpName) (args : List FullPat) → Each PatIs args → HeadIs (head.Prefix called args)
head-Prefix called args all = each-map pats.FitPlaced bare_pat args all

pub head-Infix : (left : FullPat) (called : Name) (right : FullPat) → PatIs left → PatIs right
    → HeadIs (head.Infix left called right)
head-Infix left called right first second =
    (good-pair (bare_pat left).at (bare_pat left).pat (bare_pat right).pat first second, tt)

pub head-ParenInfix : (left : FullPat) (called : Name) (right : FullPat) (args : List FullPat) → PatIs left
    → PatIs right → Each PatIs args → HeadIs (head.ParenInfix left called right args)
head-ParenInfix left called right args first second all = (
  good-pair (bare_pat left).at (bare_pat left).pat (bare_pat right).pat first second,
  each-map pats.FitPlaced bare_pat args all,
)

pub clause-is : (found : FullHead) (ty : Option FullTy) (exp : FullExp) (place : At) → HeadIs found → ExpIs exp
    → ClauseIs (roll-FullClause (record { head = found; ty = ty; body = exp; at = place }))
unfolding bare_dec bare_exp bare_item bare_clause bare_field bare_fun_bind bare_rule bare_val_bind
clause-is found ty exp place first second =
    subst FitClause (sym (fold-roll-FullClause _ _ _ _ _ _ _ _ dec_level exp_level exp_item_level clause_level
    exp_field_level fun_bind_level rule_level val_bind_level (record { head = found; ty = ty; body = exp; at = place })))
    (record { args = first; body = good-result ty (bare_exp exp) second })

pub fun_bind-is : (found : List FullClause) (place : At) → Each ClauseIs found
    → FunIs (roll-FullFunBind (record { clauses = found; at = place }))
unfolding bare_dec bare_exp bare_item bare_clause bare_field bare_fun_bind bare_rule bare_val_bind
fun_bind-is found place all =
    subst FitRule (sym (fold-roll-FullFunBind _ _ _ _ _ _ _ _ dec_level exp_level exp_item_level clause_level
    exp_field_level fun_bind_level rule_level val_bind_level (record { clauses = found; at = place })))
    (good-fun place (map bare_clause found) (each-map FitClause bare_clause found all))

pub val_bind-is : (count : ℕ) (found : FullPat) (value : FullExp) (place : At) → PatIs found → ExpIs value
    → ValIs (roll-FullValBind (record { recs = count; pat = found; exp = value; at = place }))
unfolding bare_dec bare_exp bare_item bare_clause bare_field bare_fun_bind bare_rule bare_val_bind
val_bind-is count found value place first second =
    subst FitCounted (sym (fold-roll-FullValBind _ _ _ _ _ _ _ _ dec_level exp_level exp_item_level clause_level
    exp_field_level fun_bind_level rule_level val_bind_level
    (record { recs = count; pat = found; exp = value; at = place })))
    (good-rule (bare_pat found).pat (bare_exp value).exp first second)

-- ---- declarations

dec_by : {one made : PlacedDec} → one ≡ made → Each FitDec made.decs → Each FitDec one.decs
dec_by same all = subst (λ (found : PlacedDec). Each FitDec found.decs) (sym same) all

pub dec-Val : (tyvars : List Name) (binds : List FullValBind) (at : At) → Each ValIs binds
    → DecIs (d.Val tyvars binds at)
dec-Val tyvars binds at all =
    let bare = map bare_val_bind binds in
    let each = each-map FitCounted bare_val_bind binds all in
    dec_by (bare_dec-Val tyvars binds at) (
      good-dec_Val tyvars (plain_rules bare) (rec_rules bare) at (good-firsts bare each)
          (each-map FitRule rule_of (rec_binds bare) (good-recs bare each)),
      tt,
    )

pub dec-Fun : (tyvars : List Name) (binds : List FullFunBind) (at : At) → Each FunIs binds
    → DecIs (d.Fun tyvars binds at)
dec-Fun tyvars binds at all =
    dec_by (bare_dec-Fun tyvars binds at)
    (good-dec_Val tyvars [] (map bare_fun_bind binds) at tt (each-map FitRule bare_fun_bind binds all), tt)

pub dec-Types : (binds : List FullTypBind) (at : At) → DecIs (d.Types binds at)
dec-Types binds at = dec_by (bare_dec-Types binds at) (good-dec_Types (map bare_typ_bind binds) at, tt)

pub dec-Datatypes : (binds : List FullDatBind) (at : At) → DecIs (d.Datatypes binds at)
dec-Datatypes binds at = dec_by (bare_dec-Datatypes binds at) (good-dec_Datatypes (map bare_dat_bind binds) at, tt)

pub dec-Replication : (called : Name) (long : LongName) (at : At) → DecIs (d.Replication called long at)
dec-Replication called long at = dec_by (bare_dec-Replication called long at) (good-dec_Replication called long at, tt)

pub dec-Exceptions : (binds : List FullExBind) (at : At) → DecIs (d.Exceptions binds at)
dec-Exceptions binds at = dec_by (bare_dec-Exceptions binds at) (good-dec_Exceptions (map bare_ex_bind binds) at, tt)

pub dec-Local : (hidden decs : List FullDec) (at : At) → Each DecIs hidden → Each DecIs decs
    → DecIs (d.Local hidden decs at)
dec-Local hidden decs at first second =
    dec_by (bare_dec-Local hidden decs at) (
      good-dec_Local (sequence_dec at (map bare_dec hidden)) (sequence_dec at (map bare_dec decs)) at
          (sequence-is bare_dec hidden at first) (sequence-is bare_dec decs at second),
      tt,
    )

pub dec-Open : (longs : List LongName) (at : At) → DecIs (d.Open longs at)
dec-Open longs at = dec_by (bare_dec-Open longs at) (good-dec_Open longs at, tt)

pub dec-Infix : (strength : Option ℕ) (names : List Name) (at : At) → DecIs (d.Infix strength names at)
dec-Infix strength names at = dec_by (bare_dec-Infix strength names at) tt

pub dec-Infixr : (strength : Option ℕ) (names : List Name) (at : At) → DecIs (d.Infixr strength names at)
dec-Infixr strength names at = dec_by (bare_dec-Infixr strength names at) tt

pub dec-Nonfix : (names : List Name) (at : At) → DecIs (d.Nonfix names at)
dec-Nonfix names at = dec_by (bare_dec-Nonfix names at) tt
