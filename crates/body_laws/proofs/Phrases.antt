-- What each phrase of the core becomes is good.
use Rattle.std.proofs.Common.{◌≡◌, [], sym, subst, map, flat_map}
use Rattle.std.specs.Prelude.{codes}
use Rattle.sml_trees.specs.declared.full_exp.FullDec.{FullDec, roll-FullDec}
use Rattle.sml_trees.specs.declared.full_exp.FullExp.{FullExp, roll-FullExp}
use Rattle.sml_trees.specs.declared.full_exp.FullExpItem.{FullExpItem, roll-FullExpItem}
use Rattle.sml_trees.specs.declared.full_exp.FullClause.{FullClause, roll-FullClause}
use Rattle.sml_trees.specs.declared.full_exp.FullExpField.{FullExpField, roll-FullExpField}
use Rattle.sml_trees.specs.declared.full_exp.FullFunBind.{FullFunBind, roll-FullFunBind}
use Rattle.sml_trees.specs.declared.full_exp.FullRule.{FullRule, roll-FullRule}
use Rattle.sml_trees.specs.declared.full_exp.FullValBind.{FullValBind, roll-FullValBind}
use Rattle.sml_trees.specs.declared.full_exp.FullDec.TheOpen.{FullDec-F, FullExp-F, FullExpItem-F, FullClause-F, FullExpField-F, FullFunBind-F, FullRule-F, FullValBind-F}
use Rattle.sml_trees.specs.declared.full_exp.FullDec.TheFolds.{map-FullDec, map-FullExp, map-FullExpItem, map-FullClause, map-FullExpField, map-FullFunBind, map-FullRule, map-FullValBind, fold-roll-FullDec, fold-roll-FullExp, fold-roll-FullExpItem, fold-roll-FullClause, fold-roll-FullExpField, fold-roll-FullFunBind, fold-roll-FullRule, fold-roll-FullValBind, ind-FullDec}
use Rattle.sml_trees.specs.declared.exp.ExpField.{ExpField}
use Rattle.sml_trees.specs.declared.exp.Rule.{Rule}
use Rattle.bare_forms.specs.declared.placed.PlacedExp.{PlacedExp}
use Rattle.bare_forms.specs.declared.placed.BareClause.{BareClause}
use Rattle.bare_forms.specs.declared.placed.CountedRule.{CountedRule}
use Rattle.bare_forms.specs.Types.{bare_ty, bare_typ_bind, bare_dat_bind, bare_ex_bind}
use Rattle.bare_forms.specs.Patterns.{bare_pat, long_at}
use Rattle.bare_forms.specs.Runs.{Part}
use Rattle.bare_forms.specs.Nodes.{long_exp, exp_fields_from, body_exp}
use Rattle.bare_forms.specs.Expressions.{PlacedDec, plain_rules, rec_binds, rec_rules, rule_of, decs_of, sequence_dec, dec_level, exp_level, exp_item_level, clause_level, exp_field_level, fun_bind_level, rule_level, val_bind_level, bare_dec, bare_exp, bare_item, bare_clause, bare_field, bare_fun_bind, bare_rule, bare_val_bind}
use Rattle.body_laws.proofs.Signatures.{Each, each-map, each-held, each-flat}
use Rattle.body_laws.proofs.Nodes.{PlainPlaced, PlainRule, PlainField, PlainDec, good-field, good-rule, good-Long, good-Record, good-Let, good-Typed, good-Handle, good-Raise, good-Fn, good-dec_Val, good-dec_Types, good-dec_Datatypes, good-dec_Replication, good-dec_Exceptions, good-dec_Open, good-dec_Local, good-dec_Sequence, good-constant, good-unit, good-tuple, good-case, good-if, good-while, good-list, good-sequence, good-body, PlainPart, good-run, PlainClause, good-fun, good-result, PlainCounted, good-firsts, good-recs}

-- ---- each phrase of the core

abbrev DecIs : FullDec → Type 0
DecIs d = Each PlainDec (bare_dec d).decs

abbrev ExpIs : FullExp → Type 0
ExpIs e = PlainPlaced (bare_exp e)

abbrev ItemIs : FullExpItem → Type 0
ItemIs item = PlainPart (bare_item item)

abbrev ClauseIs : FullClause → Type 0
ClauseIs clause = PlainClause (bare_clause clause)

abbrev FieldIs : FullExpField → Type 0
FieldIs f = PlainField (bare_field f)

abbrev FunIs : FullFunBind → Type 0
FunIs bind = PlainRule (bare_fun_bind bind)

abbrev RuleIs : FullRule → Type 0
RuleIs r = PlainRule (bare_rule r)

abbrev ValIs : FullValBind → Type 0
ValIs bind = PlainCounted (bare_val_bind bind)

abbrev HeldFullDec : Type 0
HeldFullDec = (x : FullDec) × DecIs x

abbrev HeldFullExp : Type 0
HeldFullExp = (x : FullExp) × ExpIs x

abbrev HeldFullExpItem : Type 0
HeldFullExpItem = (x : FullExpItem) × ItemIs x

abbrev HeldFullClause : Type 0
HeldFullClause = (x : FullClause) × ClauseIs x

abbrev HeldFullExpField : Type 0
HeldFullExpField = (x : FullExpField) × FieldIs x

abbrev HeldFullFunBind : Type 0
HeldFullFunBind = (x : FullFunBind) × FunIs x

abbrev HeldFullRule : Type 0
HeldFullRule = (x : FullRule) × RuleIs x

abbrev HeldFullValBind : Type 0
HeldFullValBind = (x : FullValBind) × ValIs x

exp_parts : (y : FullExp-F HeldFullDec HeldFullExp HeldFullExpItem HeldFullClause HeldFullExpField HeldFullFunBind HeldFullRule HeldFullValBind) → PlainPlaced (exp_level (map-FullExp _ _ _ _ _ _ _ _ _ _ _ _ _ _ _ _ bare_dec bare_exp bare_item bare_clause bare_field bare_fun_bind bare_rule bare_val_bind (map-FullExp _ _ _ _ _ _ _ _ _ _ _ _ _ _ _ _ (λ h. h.0) (λ h. h.0) (λ h. h.0) (λ h. h.0) (λ h. h.0) (λ h. h.0) (λ h. h.0) (λ h. h.0) y)))
unfolding bare_dec bare_exp bare_item bare_clause bare_field bare_fun_bind bare_rule bare_val_bind
exp_parts (FullExp-F.Constant c at) = good-constant c at
exp_parts (FullExp-F.Long long at) = good-Long long.long at
exp_parts (FullExp-F.Record fields at) = good-Record (map bare_field (map (λ h. h.0) fields)) at (each-map PlainField bare_field (map (λ h. h.0) fields) (each-held (λ x. PlainField (bare_field x)) fields))
exp_parts (FullExp-F.Unit at) = good-unit at
exp_parts (FullExp-F.Tuple parts at) =
    good-Record (exp_fields_from at 1 (map bare_exp (map (λ h. h.0) parts))) at (good-tuple at 1 (map bare_exp (map (λ h. h.0) parts)) (each-map PlainPlaced bare_exp (map (λ h. h.0) parts) (each-held (λ x. PlainPlaced (bare_exp x)) parts)))
exp_parts (FullExp-F.Sequence exps at) = good-sequence at (map bare_exp (map (λ h. h.0) exps)) (each-map PlainPlaced bare_exp (map (λ h. h.0) exps) (each-held (λ x. PlainPlaced (bare_exp x)) exps))
exp_parts (FullExp-F.Paren inner at) = inner.1
exp_parts (FullExp-F.List items at) = good-list at (map bare_exp (map (λ h. h.0) items)) (each-map PlainPlaced bare_exp (map (λ h. h.0) items) (each-held (λ x. PlainPlaced (bare_exp x)) items))
exp_parts (FullExp-F.Let decs exps at) =
    good-Let (sequence_dec at (map bare_dec (map (λ h. h.0) decs))) (body_exp at (map bare_exp (map (λ h. h.0) exps))) at
    ((good-dec_Sequence (flat_map decs_of (map bare_dec (map (λ h. h.0) decs))) at (each-flat PlainDec decs_of (map bare_dec (map (λ h. h.0) decs)) (each-map (λ d. Each PlainDec (decs_of d)) bare_dec (map (λ h. h.0) decs) (each-held (λ x. DecIs x) decs)))))
    (good-body at (map bare_exp (map (λ h. h.0) exps)) (each-map PlainPlaced bare_exp (map (λ h. h.0) exps) (each-held (λ x. PlainPlaced (bare_exp x)) exps)))
exp_parts (FullExp-F.Run parts at) = good-run at (map bare_item (map (λ h. h.0) parts)) (each-map PlainPart bare_item (map (λ h. h.0) parts) (each-held (λ x. PlainPart (bare_item x)) parts))
exp_parts (FullExp-F.Typed inner t at) = good-Typed (bare_exp inner.0).exp (bare_ty t) at inner.1
exp_parts (FullExp-F.AndAlso a b at) =
    good-if at (bare_exp a.0).exp (bare_exp b.0).exp (long_exp at (codes "false")) a.1 b.1 (good-Long (long_at at (codes "false")) at)
exp_parts (FullExp-F.OrElse a b at) =
    good-if at (bare_exp a.0).exp (long_exp at (codes "true")) (bare_exp b.0).exp a.1 (good-Long (long_at at (codes "true")) at) b.1
exp_parts (FullExp-F.Handle inner rules at) = good-Handle (bare_exp inner.0).exp (map bare_rule (map (λ h. h.0) rules)) at inner.1 (each-map PlainRule bare_rule (map (λ h. h.0) rules) (each-held (λ x. PlainRule (bare_rule x)) rules))
exp_parts (FullExp-F.Raise inner at) = good-Raise (bare_exp inner.0).exp at inner.1
exp_parts (FullExp-F.If a b c at) = good-if at (bare_exp a.0).exp (bare_exp b.0).exp (bare_exp c.0).exp a.1 b.1 c.1
exp_parts (FullExp-F.While a b at) = good-while at (bare_exp a.0).exp (bare_exp b.0).exp a.1 b.1
exp_parts (FullExp-F.Case subject rules at) = good-case at (bare_exp subject.0).exp (map bare_rule (map (λ h. h.0) rules)) subject.1 (each-map PlainRule bare_rule (map (λ h. h.0) rules) (each-held (λ x. PlainRule (bare_rule x)) rules))
exp_parts (FullExp-F.Fn rules at) = good-Fn (map bare_rule (map (λ h. h.0) rules)) at (each-map PlainRule bare_rule (map (λ h. h.0) rules) (each-held (λ x. PlainRule (bare_rule x)) rules))

dec_parts : (y : FullDec-F HeldFullDec HeldFullExp HeldFullExpItem HeldFullClause HeldFullExpField HeldFullFunBind HeldFullRule HeldFullValBind) → Each PlainDec (dec_level (map-FullDec _ _ _ _ _ _ _ _ _ _ _ _ _ _ _ _ bare_dec bare_exp bare_item bare_clause bare_field bare_fun_bind bare_rule bare_val_bind (map-FullDec _ _ _ _ _ _ _ _ _ _ _ _ _ _ _ _ (λ h. h.0) (λ h. h.0) (λ h. h.0) (λ h. h.0) (λ h. h.0) (λ h. h.0) (λ h. h.0) (λ h. h.0) y))).decs
unfolding bare_dec bare_exp bare_item bare_clause bare_field bare_fun_bind bare_rule bare_val_bind
dec_parts (FullDec-F.Val tyvars binds at) =
    let all = each-map PlainCounted bare_val_bind (map (λ h. h.0) binds) (each-held (λ x. PlainCounted (bare_val_bind x)) binds) in (
      good-dec_Val tyvars (plain_rules (map bare_val_bind (map (λ h. h.0) binds))) (rec_rules (map bare_val_bind (map (λ h. h.0) binds))) at
          (good-firsts (map bare_val_bind (map (λ h. h.0) binds)) all)
          (each-map PlainRule rule_of (rec_binds (map bare_val_bind (map (λ h. h.0) binds))) (good-recs (map bare_val_bind (map (λ h. h.0) binds)) all)),
      tt,
    )
dec_parts (FullDec-F.Fun tyvars binds at) =
    (good-dec_Val tyvars [] (map bare_fun_bind (map (λ h. h.0) binds)) at tt (each-map PlainRule bare_fun_bind (map (λ h. h.0) binds) (each-held (λ x. PlainRule (bare_fun_bind x)) binds)), tt)
dec_parts (FullDec-F.Types binds at) = (good-dec_Types (map bare_typ_bind binds) at, tt)
dec_parts (FullDec-F.Datatypes binds at) = (good-dec_Datatypes (map bare_dat_bind binds) at, tt)
dec_parts (FullDec-F.Replication name long at) = (good-dec_Replication name long at, tt)
dec_parts (FullDec-F.Exceptions binds at) = (good-dec_Exceptions (map bare_ex_bind binds) at, tt)
dec_parts (FullDec-F.Local hidden decs at) = (
  good-dec_Local (sequence_dec at (map bare_dec (map (λ h. h.0) hidden))) (sequence_dec at (map bare_dec (map (λ h. h.0) decs))) at
      (good-dec_Sequence (flat_map decs_of (map bare_dec (map (λ h. h.0) hidden))) at (each-flat PlainDec decs_of (map bare_dec (map (λ h. h.0) hidden)) (each-map (λ d. Each PlainDec (decs_of d)) bare_dec (map (λ h. h.0) hidden) (each-held (λ x. DecIs x) hidden))))
      (good-dec_Sequence (flat_map decs_of (map bare_dec (map (λ h. h.0) decs))) at (each-flat PlainDec decs_of (map bare_dec (map (λ h. h.0) decs)) (each-map (λ d. Each PlainDec (decs_of d)) bare_dec (map (λ h. h.0) decs) (each-held (λ x. DecIs x) decs)))),
  tt,
)
dec_parts (FullDec-F.Open longs at) = (good-dec_Open longs at, tt)
dec_parts (FullDec-F.Infix strength names at) = tt
dec_parts (FullDec-F.Infixr strength names at) = tt
dec_parts (FullDec-F.Nonfix names at) = tt

item_parts : (y : FullExpItem-F HeldFullDec HeldFullExp HeldFullExpItem HeldFullClause HeldFullExpField HeldFullFunBind HeldFullRule HeldFullValBind) → PlainPart (exp_item_level (map-FullExpItem _ _ _ _ _ _ _ _ _ _ _ _ _ _ _ _ bare_dec bare_exp bare_item bare_clause bare_field bare_fun_bind bare_rule bare_val_bind (map-FullExpItem _ _ _ _ _ _ _ _ _ _ _ _ _ _ _ _ (λ h. h.0) (λ h. h.0) (λ h. h.0) (λ h. h.0) (λ h. h.0) (λ h. h.0) (λ h. h.0) (λ h. h.0) y)))
unfolding bare_dec bare_exp bare_item bare_clause bare_field bare_fun_bind bare_rule bare_val_bind
item_parts (FullExpItem-F.Atom e) = e.1
item_parts (FullExpItem-F.Operator name fixity) = tt

clause_parts : (y : FullClause-F HeldFullDec HeldFullExp HeldFullExpItem HeldFullClause HeldFullExpField HeldFullFunBind HeldFullRule HeldFullValBind) → PlainClause (clause_level (map-FullClause _ _ _ _ _ _ _ _ _ _ _ _ _ _ _ _ bare_dec bare_exp bare_item bare_clause bare_field bare_fun_bind bare_rule bare_val_bind (map-FullClause _ _ _ _ _ _ _ _ _ _ _ _ _ _ _ _ (λ h. h.0) (λ h. h.0) (λ h. h.0) (λ h. h.0) (λ h. h.0) (λ h. h.0) (λ h. h.0) (λ h. h.0) y)))
unfolding bare_dec bare_exp bare_item bare_clause bare_field bare_fun_bind bare_rule bare_val_bind
clause_parts y = good-result y.ty (bare_exp y.body.0) y.body.1

field_parts : (y : FullExpField-F HeldFullDec HeldFullExp HeldFullExpItem HeldFullClause HeldFullExpField HeldFullFunBind HeldFullRule HeldFullValBind) → PlainField (exp_field_level (map-FullExpField _ _ _ _ _ _ _ _ _ _ _ _ _ _ _ _ bare_dec bare_exp bare_item bare_clause bare_field bare_fun_bind bare_rule bare_val_bind (map-FullExpField _ _ _ _ _ _ _ _ _ _ _ _ _ _ _ _ (λ h. h.0) (λ h. h.0) (λ h. h.0) (λ h. h.0) (λ h. h.0) (λ h. h.0) (λ h. h.0) (λ h. h.0) y)))
unfolding bare_dec bare_exp bare_item bare_clause bare_field bare_fun_bind bare_rule bare_val_bind
field_parts y = good-field y.label (bare_exp y.exp.0).exp y.exp.1

fun_parts : (y : FullFunBind-F HeldFullDec HeldFullExp HeldFullExpItem HeldFullClause HeldFullExpField HeldFullFunBind HeldFullRule HeldFullValBind) → PlainRule (fun_bind_level (map-FullFunBind _ _ _ _ _ _ _ _ _ _ _ _ _ _ _ _ bare_dec bare_exp bare_item bare_clause bare_field bare_fun_bind bare_rule bare_val_bind (map-FullFunBind _ _ _ _ _ _ _ _ _ _ _ _ _ _ _ _ (λ h. h.0) (λ h. h.0) (λ h. h.0) (λ h. h.0) (λ h. h.0) (λ h. h.0) (λ h. h.0) (λ h. h.0) y)))
unfolding bare_dec bare_exp bare_item bare_clause bare_field bare_fun_bind bare_rule bare_val_bind
fun_parts y = good-fun y.at (map bare_clause (map (λ h. h.0) y.clauses)) (each-map PlainClause bare_clause (map (λ h. h.0) y.clauses) (each-held (λ x. PlainClause (bare_clause x)) y.clauses))

rule_parts : (y : FullRule-F HeldFullDec HeldFullExp HeldFullExpItem HeldFullClause HeldFullExpField HeldFullFunBind HeldFullRule HeldFullValBind) → PlainRule (rule_level (map-FullRule _ _ _ _ _ _ _ _ _ _ _ _ _ _ _ _ bare_dec bare_exp bare_item bare_clause bare_field bare_fun_bind bare_rule bare_val_bind (map-FullRule _ _ _ _ _ _ _ _ _ _ _ _ _ _ _ _ (λ h. h.0) (λ h. h.0) (λ h. h.0) (λ h. h.0) (λ h. h.0) (λ h. h.0) (λ h. h.0) (λ h. h.0) y)))
unfolding bare_dec bare_exp bare_item bare_clause bare_field bare_fun_bind bare_rule bare_val_bind
rule_parts y = good-rule (bare_pat y.pat).pat (bare_exp y.exp.0).exp y.exp.1

val_parts : (y : FullValBind-F HeldFullDec HeldFullExp HeldFullExpItem HeldFullClause HeldFullExpField HeldFullFunBind HeldFullRule HeldFullValBind) → PlainCounted (val_bind_level (map-FullValBind _ _ _ _ _ _ _ _ _ _ _ _ _ _ _ _ bare_dec bare_exp bare_item bare_clause bare_field bare_fun_bind bare_rule bare_val_bind (map-FullValBind _ _ _ _ _ _ _ _ _ _ _ _ _ _ _ _ (λ h. h.0) (λ h. h.0) (λ h. h.0) (λ h. h.0) (λ h. h.0) (λ h. h.0) (λ h. h.0) (λ h. h.0) y)))
unfolding bare_dec bare_exp bare_item bare_clause bare_field bare_fun_bind bare_rule bare_val_bind
val_parts y = good-rule (bare_pat y.pat).pat (bare_exp y.exp.0).exp y.exp.1

dec_step : (x : FullDec-F FullDec FullExp FullExpItem FullClause FullExpField FullFunBind FullRule FullValBind) (y : FullDec-F HeldFullDec HeldFullExp HeldFullExpItem HeldFullClause HeldFullExpField HeldFullFunBind HeldFullRule HeldFullValBind) → map-FullDec _ _ _ _ _ _ _ _ _ _ _ _ _ _ _ _ (λ h. h.0) (λ h. h.0) (λ h. h.0) (λ h. h.0) (λ h. h.0) (λ h. h.0) (λ h. h.0) (λ h. h.0) y ≡ x → DecIs (roll-FullDec x)
unfolding bare_dec bare_exp bare_item bare_clause bare_field bare_fun_bind bare_rule bare_val_bind
dec_step x y is = subst (λ (z : FullDec-F FullDec FullExp FullExpItem FullClause FullExpField FullFunBind FullRule FullValBind). DecIs (roll-FullDec z)) is
    (subst (λ (d : PlacedDec). Each PlainDec d.decs) (sym (fold-roll-FullDec _ _ _ _ _ _ _ _ dec_level exp_level exp_item_level clause_level exp_field_level fun_bind_level rule_level val_bind_level (map-FullDec _ _ _ _ _ _ _ _ _ _ _ _ _ _ _ _ (λ h. h.0) (λ h. h.0) (λ h. h.0) (λ h. h.0) (λ h. h.0) (λ h. h.0) (λ h. h.0) (λ h. h.0) y))) (dec_parts y))

exp_step : (x : FullExp-F FullDec FullExp FullExpItem FullClause FullExpField FullFunBind FullRule FullValBind) (y : FullExp-F HeldFullDec HeldFullExp HeldFullExpItem HeldFullClause HeldFullExpField HeldFullFunBind HeldFullRule HeldFullValBind) → map-FullExp _ _ _ _ _ _ _ _ _ _ _ _ _ _ _ _ (λ h. h.0) (λ h. h.0) (λ h. h.0) (λ h. h.0) (λ h. h.0) (λ h. h.0) (λ h. h.0) (λ h. h.0) y ≡ x → ExpIs (roll-FullExp x)
unfolding bare_dec bare_exp bare_item bare_clause bare_field bare_fun_bind bare_rule bare_val_bind
exp_step x y is = subst (λ (z : FullExp-F FullDec FullExp FullExpItem FullClause FullExpField FullFunBind FullRule FullValBind). ExpIs (roll-FullExp z)) is
    (subst (λ (p : PlacedExp). PlainPlaced p) (sym (fold-roll-FullExp _ _ _ _ _ _ _ _ dec_level exp_level exp_item_level clause_level exp_field_level fun_bind_level rule_level val_bind_level (map-FullExp _ _ _ _ _ _ _ _ _ _ _ _ _ _ _ _ (λ h. h.0) (λ h. h.0) (λ h. h.0) (λ h. h.0) (λ h. h.0) (λ h. h.0) (λ h. h.0) (λ h. h.0) y))) (exp_parts y))

item_step : (x : FullExpItem-F FullDec FullExp FullExpItem FullClause FullExpField FullFunBind FullRule FullValBind) (y : FullExpItem-F HeldFullDec HeldFullExp HeldFullExpItem HeldFullClause HeldFullExpField HeldFullFunBind HeldFullRule HeldFullValBind) → map-FullExpItem _ _ _ _ _ _ _ _ _ _ _ _ _ _ _ _ (λ h. h.0) (λ h. h.0) (λ h. h.0) (λ h. h.0) (λ h. h.0) (λ h. h.0) (λ h. h.0) (λ h. h.0) y ≡ x → ItemIs (roll-FullExpItem x)
unfolding bare_dec bare_exp bare_item bare_clause bare_field bare_fun_bind bare_rule bare_val_bind
item_step x y is = subst (λ (z : FullExpItem-F FullDec FullExp FullExpItem FullClause FullExpField FullFunBind FullRule FullValBind). ItemIs (roll-FullExpItem z)) is
    (subst (λ (p : Part PlacedExp). PlainPart p) (sym (fold-roll-FullExpItem _ _ _ _ _ _ _ _ dec_level exp_level exp_item_level clause_level exp_field_level fun_bind_level rule_level val_bind_level (map-FullExpItem _ _ _ _ _ _ _ _ _ _ _ _ _ _ _ _ (λ h. h.0) (λ h. h.0) (λ h. h.0) (λ h. h.0) (λ h. h.0) (λ h. h.0) (λ h. h.0) (λ h. h.0) y))) (item_parts y))

clause_step : (x : FullClause-F FullDec FullExp FullExpItem FullClause FullExpField FullFunBind FullRule FullValBind) (y : FullClause-F HeldFullDec HeldFullExp HeldFullExpItem HeldFullClause HeldFullExpField HeldFullFunBind HeldFullRule HeldFullValBind) → map-FullClause _ _ _ _ _ _ _ _ _ _ _ _ _ _ _ _ (λ h. h.0) (λ h. h.0) (λ h. h.0) (λ h. h.0) (λ h. h.0) (λ h. h.0) (λ h. h.0) (λ h. h.0) y ≡ x → ClauseIs (roll-FullClause x)
unfolding bare_dec bare_exp bare_item bare_clause bare_field bare_fun_bind bare_rule bare_val_bind
clause_step x y is = subst (λ (z : FullClause-F FullDec FullExp FullExpItem FullClause FullExpField FullFunBind FullRule FullValBind). ClauseIs (roll-FullClause z)) is
    (subst (λ (c : BareClause). PlainClause c) (sym (fold-roll-FullClause _ _ _ _ _ _ _ _ dec_level exp_level exp_item_level clause_level exp_field_level fun_bind_level rule_level val_bind_level (map-FullClause _ _ _ _ _ _ _ _ _ _ _ _ _ _ _ _ (λ h. h.0) (λ h. h.0) (λ h. h.0) (λ h. h.0) (λ h. h.0) (λ h. h.0) (λ h. h.0) (λ h. h.0) y))) (clause_parts y))

field_step : (x : FullExpField-F FullDec FullExp FullExpItem FullClause FullExpField FullFunBind FullRule FullValBind) (y : FullExpField-F HeldFullDec HeldFullExp HeldFullExpItem HeldFullClause HeldFullExpField HeldFullFunBind HeldFullRule HeldFullValBind) → map-FullExpField _ _ _ _ _ _ _ _ _ _ _ _ _ _ _ _ (λ h. h.0) (λ h. h.0) (λ h. h.0) (λ h. h.0) (λ h. h.0) (λ h. h.0) (λ h. h.0) (λ h. h.0) y ≡ x → FieldIs (roll-FullExpField x)
unfolding bare_dec bare_exp bare_item bare_clause bare_field bare_fun_bind bare_rule bare_val_bind
field_step x y is = subst (λ (z : FullExpField-F FullDec FullExp FullExpItem FullClause FullExpField FullFunBind FullRule FullValBind). FieldIs (roll-FullExpField z)) is
    (subst (λ (f : ExpField). PlainField f) (sym (fold-roll-FullExpField _ _ _ _ _ _ _ _ dec_level exp_level exp_item_level clause_level exp_field_level fun_bind_level rule_level val_bind_level (map-FullExpField _ _ _ _ _ _ _ _ _ _ _ _ _ _ _ _ (λ h. h.0) (λ h. h.0) (λ h. h.0) (λ h. h.0) (λ h. h.0) (λ h. h.0) (λ h. h.0) (λ h. h.0) y))) (field_parts y))

fun_step : (x : FullFunBind-F FullDec FullExp FullExpItem FullClause FullExpField FullFunBind FullRule FullValBind) (y : FullFunBind-F HeldFullDec HeldFullExp HeldFullExpItem HeldFullClause HeldFullExpField HeldFullFunBind HeldFullRule HeldFullValBind) → map-FullFunBind _ _ _ _ _ _ _ _ _ _ _ _ _ _ _ _ (λ h. h.0) (λ h. h.0) (λ h. h.0) (λ h. h.0) (λ h. h.0) (λ h. h.0) (λ h. h.0) (λ h. h.0) y ≡ x → FunIs (roll-FullFunBind x)
unfolding bare_dec bare_exp bare_item bare_clause bare_field bare_fun_bind bare_rule bare_val_bind
fun_step x y is = subst (λ (z : FullFunBind-F FullDec FullExp FullExpItem FullClause FullExpField FullFunBind FullRule FullValBind). FunIs (roll-FullFunBind z)) is
    (subst (λ (r : Rule). PlainRule r) (sym (fold-roll-FullFunBind _ _ _ _ _ _ _ _ dec_level exp_level exp_item_level clause_level exp_field_level fun_bind_level rule_level val_bind_level (map-FullFunBind _ _ _ _ _ _ _ _ _ _ _ _ _ _ _ _ (λ h. h.0) (λ h. h.0) (λ h. h.0) (λ h. h.0) (λ h. h.0) (λ h. h.0) (λ h. h.0) (λ h. h.0) y))) (fun_parts y))

rule_step : (x : FullRule-F FullDec FullExp FullExpItem FullClause FullExpField FullFunBind FullRule FullValBind) (y : FullRule-F HeldFullDec HeldFullExp HeldFullExpItem HeldFullClause HeldFullExpField HeldFullFunBind HeldFullRule HeldFullValBind) → map-FullRule _ _ _ _ _ _ _ _ _ _ _ _ _ _ _ _ (λ h. h.0) (λ h. h.0) (λ h. h.0) (λ h. h.0) (λ h. h.0) (λ h. h.0) (λ h. h.0) (λ h. h.0) y ≡ x → RuleIs (roll-FullRule x)
unfolding bare_dec bare_exp bare_item bare_clause bare_field bare_fun_bind bare_rule bare_val_bind
rule_step x y is = subst (λ (z : FullRule-F FullDec FullExp FullExpItem FullClause FullExpField FullFunBind FullRule FullValBind). RuleIs (roll-FullRule z)) is
    (subst (λ (r : Rule). PlainRule r) (sym (fold-roll-FullRule _ _ _ _ _ _ _ _ dec_level exp_level exp_item_level clause_level exp_field_level fun_bind_level rule_level val_bind_level (map-FullRule _ _ _ _ _ _ _ _ _ _ _ _ _ _ _ _ (λ h. h.0) (λ h. h.0) (λ h. h.0) (λ h. h.0) (λ h. h.0) (λ h. h.0) (λ h. h.0) (λ h. h.0) y))) (rule_parts y))

val_step : (x : FullValBind-F FullDec FullExp FullExpItem FullClause FullExpField FullFunBind FullRule FullValBind) (y : FullValBind-F HeldFullDec HeldFullExp HeldFullExpItem HeldFullClause HeldFullExpField HeldFullFunBind HeldFullRule HeldFullValBind) → map-FullValBind _ _ _ _ _ _ _ _ _ _ _ _ _ _ _ _ (λ h. h.0) (λ h. h.0) (λ h. h.0) (λ h. h.0) (λ h. h.0) (λ h. h.0) (λ h. h.0) (λ h. h.0) y ≡ x → ValIs (roll-FullValBind x)
unfolding bare_dec bare_exp bare_item bare_clause bare_field bare_fun_bind bare_rule bare_val_bind
val_step x y is = subst (λ (z : FullValBind-F FullDec FullExp FullExpItem FullClause FullExpField FullFunBind FullRule FullValBind). ValIs (roll-FullValBind z)) is
    (subst (λ (b : CountedRule). PlainCounted b) (sym (fold-roll-FullValBind _ _ _ _ _ _ _ _ dec_level exp_level exp_item_level clause_level exp_field_level fun_bind_level rule_level val_bind_level (map-FullValBind _ _ _ _ _ _ _ _ _ _ _ _ _ _ _ _ (λ h. h.0) (λ h. h.0) (λ h. h.0) (λ h. h.0) (λ h. h.0) (λ h. h.0) (λ h. h.0) (λ h. h.0) y))) (val_parts y))

pub dec_is : (d : FullDec) → DecIs d
dec_is = ind-FullDec DecIs ExpIs ItemIs ClauseIs FieldIs FunIs RuleIs ValIs dec_step exp_step item_step clause_step field_step fun_step rule_step val_step
