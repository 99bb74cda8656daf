-- What is written in the core, with functions behind `rec` alone, becomes phrases in which it is so.
use Rattle.std.proofs.Common.{◌≡◌, ℕ, List, [], ◌∷◌, map, flat_map, Bool, true, false, if◌then◌else◌, ◌&&◌, ◌==◌, refl, sym, ap, ◌∙◌, subst}
use Rattle.std.specs.Prelude.{codes}
use Rattle.std.specs.List.{list_all}
use Rattle.sml_trees.specs.declared.full_exp.FullHead.{FullHead}
use Rattle.sml_trees.specs.declared.full_exp.FullHead.TheVariants as head
use Rattle.sml_trees.specs.declared.full_exp.FullDec.{FullDec, roll-FullDec}
use Rattle.sml_trees.specs.declared.full_exp.FullExp.{FullExp, roll-FullExp}
use Rattle.sml_trees.specs.declared.full_exp.FullExpItem.{FullExpItem, roll-FullExpItem}
use Rattle.sml_trees.specs.declared.full_exp.FullClause.{FullClause, roll-FullClause}
use Rattle.sml_trees.specs.declared.full_exp.FullExpField.{FullExpField, roll-FullExpField}
use Rattle.sml_trees.specs.declared.full_exp.FullFunBind.{FullFunBind, roll-FullFunBind}
use Rattle.sml_trees.specs.declared.full_exp.FullRule.{FullRule, roll-FullRule}
use Rattle.sml_trees.specs.declared.full_exp.FullValBind.{FullValBind, roll-FullValBind}
use Rattle.sml_trees.specs.declared.full_exp.FullDec.TheOpen.{FullDec-F, FullExp-F, FullExpItem-F, FullClause-F, FullExpField-F, FullFunBind-F, FullRule-F, FullValBind-F}
use Rattle.sml_trees.specs.declared.full_exp.FullDec.TheFolds.{map-FullDec, map-FullExp, map-FullExpItem, map-FullClause, map-FullExpField, map-FullFunBind, map-FullRule, map-FullValBind, fold-roll-FullDec, fold-roll-FullExp, fold-roll-FullExpItem, fold-roll-FullClause, fold-roll-FullExpField, fold-roll-FullFunBind, fold-roll-FullRule, fold-roll-FullValBind, ind-FullDec}
use Rattle.sml_trees.specs.declared.exp.Rule.{Rule}
use Rattle.bare_forms.specs.declared.placed.PlacedExp.{PlacedExp}
use Rattle.bare_forms.specs.declared.placed.BareClause.{BareClause}
use Rattle.bare_forms.specs.declared.placed.CountedRule.{CountedRule}
use Rattle.bare_forms.specs.Types.{bare_ty, bare_typ_bind, bare_dat_bind, bare_ex_bind}
use Rattle.bare_forms.specs.Patterns.{bare_pat, long_at}
use Rattle.bare_forms.specs.Nodes.{long_exp, exp_fields_from, body_exp}
use Rattle.bare_forms.specs.Expressions.{PlacedDec, head_args, plain_rules, rec_binds, rec_rules, rule_of, decs_of, sequence_dec, dec_level, exp_level, exp_item_level, clause_level, exp_field_level, fun_bind_level, rule_level, val_bind_level, bare_dec, bare_exp, bare_item, bare_clause, bare_field, bare_fun_bind, bare_rule, bare_val_bind}
use Rattle.static_semantics.specs.Holding.{AllItems}
use Rattle.recursion_laws.specs.Functions.{ExpFacts, BindFacts, ClauseFacts, is_sound, is_sound_bind, is_function_bind, is_sound_clause, has_some, takes_argument, recs_bind_functions, first_takes, dec_step, exp_step, item_step, clause_step, field_step, fun_step, rule_step, val_step, dec_binds, exp_binds, item_binds, clause_binds, field_binds, fun_binds, rule_binds, val_binds}
use Rattle.recursion_laws.proofs.Forms.{first_true, second_true}
use Rattle.recursion_laws.proofs.Exps.{passes}
use Rattle.bare_functions.proofs.Nodes.{items_map, items_flat, HasF, HasR, HasD, ValueE, ValueR, has-field, has-rule, value-rule, has-Long, has-Record, has-Let, has-Typed, value-Typed, has-Handle, has-Raise, has-Fn, value-Fn, has-Val, has-Types, has-Datatypes, has-Replication, has-Exceptions, has-Open, has-Local, has-Sequence}
use Rattle.bare_functions.proofs.DerivedNodes.{HasP, HasPart, HasC, first_has, has-constant, has-unit, has-tuple, has-case, has-if, has-while, has-list, has-sequence, has-body, has-result, has-run, has-fun, value-fun}

-- ---- what holds of each phrase where its tree binds functions alone

abbrev pub DecIs : FullDec → Type 0
DecIs d = dec_binds d ≡ true → AllItems HasD (bare_dec d).decs

record ExpIs (e : FullExp) : Type 0 where
  has : is_sound (exp_binds e) ≡ true → HasP (bare_exp e)
  value : (exp_binds e).function ≡ true → ValueE (bare_exp e).exp

abbrev ItemIs : FullExpItem → Type 0
ItemIs item = item_binds item ≡ true → HasPart (bare_item item)

record ClauseIs (clause : FullClause) : Type 0 where
  has : is_sound_clause (clause_binds clause) ≡ true → HasC (bare_clause clause)
  takes : (clause_binds clause).takes ≡ true → has_some (bare_clause clause).args ≡ true

abbrev FieldIs : FullExpField → Type 0
FieldIs f = field_binds f ≡ true → HasF (bare_field f)

record FunHas (r : Rule) : Type 0 where
  has : HasR r
  value : ValueR r

abbrev FunIs : FullFunBind → Type 0
FunIs bind = fun_binds bind ≡ true → FunHas (bare_fun_bind bind)

abbrev RuleIs : FullRule → Type 0
RuleIs r = rule_binds r ≡ true → HasR (bare_rule r)

record ValIs (bind : FullValBind) : Type 0 where
  recs : (val_binds bind).recs ≡ (bare_val_bind bind).recs
  has : is_sound_bind (val_binds bind) ≡ true → HasR (bare_val_bind bind).rule
  value : is_function_bind (val_binds bind) ≡ true → ValueR (bare_val_bind bind).rule

abbrev HeldDec : Type 0
HeldDec = (x : FullDec) × DecIs x

abbrev HeldExp : Type 0
HeldExp = (x : FullExp) × ExpIs x

abbrev HeldItem : Type 0
HeldItem = (x : FullExpItem) × ItemIs x

abbrev HeldClause : Type 0
HeldClause = (x : FullClause) × ClauseIs x

abbrev HeldField : Type 0
HeldField = (x : FullExpField) × FieldIs x

abbrev HeldFun : Type 0
HeldFun = (x : FullFunBind) × FunIs x

abbrev HeldRule : Type 0
HeldRule = (x : FullRule) × RuleIs x

abbrev HeldVal : Type 0
HeldVal = (x : FullValBind) × ValIs x

-- ---- lists

-- of parts that pass a test each has what a part that passes it has
pub each_of : {A B C : Type 0} {Q : A → Type 0} (test : C → Bool) (facts : A → C) (P : B → Type 0) (f : A → B)
    → ((x : A) → Q x → test (facts x) ≡ true → P (f x)) → (held : List ((x : A) × Q x))
    → list_all test (map facts (map (λ h. h.0) held)) ≡ true → AllItems P (map f (map (λ h. h.0) held))
each_of test facts P f get [] all = tt
each_of test facts P f get (h ∷ held) all = (
  get h.0 h.1 (first_true (test (facts h.0)) (list_all test (map facts (map (λ h. h.0) held))) all),
  each_of test facts P f get held (second_true (test (facts h.0)) (list_all test (map facts (map (λ h. h.0) held))) all),
)

exps_have : (held : List HeldExp) → list_all is_sound (map exp_binds (map (λ h. h.0) held)) ≡ true
    → AllItems HasP (map bare_exp (map (λ h. h.0) held))
exps_have held all = each_of is_sound exp_binds HasP bare_exp (λ x q h. q.has h) held all

rules_have : (held : List HeldRule) → list_all passes (map rule_binds (map (λ h. h.0) held)) ≡ true
    → AllItems HasR (map bare_rule (map (λ h. h.0) held))
rules_have held all = each_of passes rule_binds HasR bare_rule (λ x q h. q h) held all

decs_have : (held : List HeldDec) → list_all passes (map dec_binds (map (λ h. h.0) held)) ≡ true
    → AllItems HasD (flat_map decs_of (map bare_dec (map (λ h. h.0) held)))
decs_have held all = items_flat HasD decs_of (map bare_dec (map (λ h. h.0) held))
    (each_of passes dec_binds (λ d. AllItems HasD (decs_of d)) bare_dec (λ x q h. q h) held all)

-- ---- bindings of `val`

abbrev HasB : CountedRule → Type 0
HasB bind = HasR bind.rule

abbrev ValueB : CountedRule → Type 0
ValueB bind = ValueR bind.rule

plain_if : (b : Bool) (bind : CountedRule) (rules : List Rule) → HasB bind → AllItems HasR rules
    → AllItems HasR (if b then (bind.rule ∷ rules) else [])
plain_if true bind rules is all = (is, all)
plain_if false bind rules is all = tt

plain_have : (binds : List CountedRule) → AllItems HasB binds → AllItems HasR (plain_rules binds)
plain_have [] all = tt
plain_have (bind ∷ binds) all = plain_if (bind.recs == 0) bind (plain_rules binds) all.0 (plain_have binds all.1)

recs_if : (P : CountedRule → Type 0) (b : Bool) (binds recs : List CountedRule) → AllItems P binds → AllItems P recs
    → AllItems P (if b then recs else binds)
recs_if P true binds recs all rest = rest
recs_if P false binds recs all rest = all

recs_have : (binds : List CountedRule) → AllItems HasB binds → AllItems HasB (rec_binds binds)
recs_have [] all = tt
recs_have (bind ∷ binds) all =
    recs_if HasB (bind.recs == 0) (bind ∷ binds) (rec_binds binds) all (recs_have binds all.1)

vals_have : (held : List HeldVal) → list_all is_sound_bind (map val_binds (map (λ h. h.0) held)) ≡ true
    → AllItems HasB (map bare_val_bind (map (λ h. h.0) held))
vals_have held all = each_of is_sound_bind val_binds HasB bare_val_bind (λ x q h. q.has h) held all

vals_values : (held : List HeldVal) → list_all is_function_bind (map val_binds (map (λ h. h.0) held)) ≡ true
    → AllItems ValueB (map bare_val_bind (map (λ h. h.0) held))
vals_values held all = each_of is_function_bind val_binds ValueB bare_val_bind (λ x q h. q.value h) held all

from_if : (b p q : Bool) (recs binds : List CountedRule) → (p ≡ true → AllItems ValueB recs)
    → (q ≡ true → AllItems ValueB binds) → (if b then p else q) ≡ true → AllItems ValueB (if b then recs else binds)
from_if true p q recs binds f g h = f h
from_if false p q recs binds f g h = g h

-- from the first `rec` on
from_rec : (held : List HeldVal) → recs_bind_functions (map val_binds (map (λ h. h.0) held)) ≡ true
    → AllItems ValueB (rec_binds (map bare_val_bind (map (λ h. h.0) held)))
from_rec [] all = tt
from_rec (h ∷ held) all =
    let rest : Bool = recs_bind_functions (map val_binds (map (λ h. h.0) held)) in
    let each : Bool = list_all is_function_bind (val_binds h.0 ∷ map val_binds (map (λ h. h.0) held)) in
    from_if ((bare_val_bind h.0).recs == 0) rest each (rec_binds (map bare_val_bind (map (λ h. h.0) held)))
    (bare_val_bind h.0 ∷ map bare_val_bind (map (λ h. h.0) held)) (λ given. from_rec held given)
    (λ given. vals_values (h ∷ held) given)
    (ap (λ (n : ℕ). if n == 0 then rest else each) (sym h.1.recs) ∙ all)

-- ---- functions

head_has : (h : FullHead) → takes_argument h ≡ true → has_some (head_args h) ≡ true
head_has (head.Prefix called []) is = absurd (cc)
head_has (head.Prefix called (p ∷ ps)) is = refl
head_has (head.Infix left called right) is = refl
head_has (head.ParenInfix left called right args) is = refl

first_of : (held : List HeldClause) → first_takes (map clause_binds (map (λ h. h.0) held)) ≡ true
    → first_has (map bare_clause (map (λ h. h.0) held)) ≡ true
first_of [] is = absurd (cc)
first_of (h ∷ held) is = h.1.takes is

funs_have : (held : List HeldFun) → list_all passes (map fun_binds (map (λ h. h.0) held)) ≡ true
    → AllItems FunHas (map bare_fun_bind (map (λ h. h.0) held))
funs_have held all = each_of passes fun_binds FunHas bare_fun_bind (λ x q h. q h) held all

only_have : (rules : List Rule) → AllItems FunHas rules → AllItems HasR rules
only_have [] all = tt
only_have (r ∷ rs) all = (all.0.has, only_have rs all.1)

only_values : (rules : List Rule) → AllItems FunHas rules → AllItems ValueR rules
only_values [] all = tt
only_values (r ∷ rs) all = (all.0.value, only_values rs all.1)

-- ---- each node

exp_parts : (y : FullExp-F HeldDec HeldExp HeldItem HeldClause HeldField HeldFun HeldRule HeldVal) → is_sound (exp_step (map-FullExp _ _ _ _ _ _ _ _ _ _ _ _ _ _ _ _ dec_binds exp_binds item_binds clause_binds field_binds fun_binds rule_binds val_binds (map-FullExp _ _ _ _ _ _ _ _ _ _ _ _ _ _ _ _ (λ h. h.0) (λ h. h.0) (λ h. h.0) (λ h. h.0) (λ h. h.0) (λ h. h.0) (λ h. h.0) (λ h. h.0) y))) ≡ true → HasP (exp_level (map-FullExp _ _ _ _ _ _ _ _ _ _ _ _ _ _ _ _ bare_dec bare_exp bare_item bare_clause bare_field bare_fun_bind bare_rule bare_val_bind (map-FullExp _ _ _ _ _ _ _ _ _ _ _ _ _ _ _ _ (λ h. h.0) (λ h. h.0) (λ h. h.0) (λ h. h.0) (λ h. h.0) (λ h. h.0) (λ h. h.0) (λ h. h.0) y)))
exp_parts (FullExp-F.Constant c at) h = has-constant c at
exp_parts (FullExp-F.Long long at) h = has-Long long.long at
exp_parts (FullExp-F.Record fields at) h = has-Record (map bare_field (map (λ h. h.0) fields)) at
    (each_of passes field_binds HasF bare_field (λ x q h. q h) fields h)
exp_parts (FullExp-F.Unit at) h = has-unit at
exp_parts (FullExp-F.Tuple parts at) h = has-Record (exp_fields_from at 1 (map bare_exp (map (λ h. h.0) parts))) at
    (has-tuple at 1 (map bare_exp (map (λ h. h.0) parts)) (exps_have parts h))
exp_parts (FullExp-F.Sequence exps at) h = has-sequence at (map bare_exp (map (λ h. h.0) exps)) (exps_have exps h)
exp_parts (FullExp-F.Paren inner at) h = inner.1.has h
exp_parts (FullExp-F.List items at) h = has-list at (map bare_exp (map (λ h. h.0) items)) (exps_have items h)
exp_parts (FullExp-F.Let decs exps at) h =
    let first = list_all passes (map dec_binds (map (λ h. h.0) decs)) in
    let second = list_all is_sound (map exp_binds (map (λ h. h.0) exps)) in
    has-Let (sequence_dec at (map bare_dec (map (λ h. h.0) decs))) (body_exp at (map bare_exp (map (λ h. h.0) exps))) at
    (has-Sequence (flat_map decs_of (map bare_dec (map (λ h. h.0) decs))) at (decs_have decs (first_true first second h)))
    (has-body at (map bare_exp (map (λ h. h.0) exps)) (exps_have exps (second_true first second h)))
exp_parts (FullExp-F.Run parts at) h = has-run at (map bare_item (map (λ h. h.0) parts))
    (each_of passes item_binds HasPart bare_item (λ x q h. q h) parts h)
exp_parts (FullExp-F.Typed inner t at) h = has-Typed (bare_exp inner.0).exp (bare_ty t) at (inner.1.has h)
exp_parts (FullExp-F.AndAlso a b at) h =
    has-if at (bare_exp a.0).exp (bare_exp b.0).exp (long_exp at (codes "false"))
    (a.1.has (first_true (is_sound (exp_binds a.0)) (is_sound (exp_binds b.0)) h))
    (b.1.has (second_true (is_sound (exp_binds a.0)) (is_sound (exp_binds b.0)) h))
    (has-Long (long_at at (codes "false")) at)
exp_parts (FullExp-F.OrElse a b at) h =
    has-if at (bare_exp a.0).exp (long_exp at (codes "true")) (bare_exp b.0).exp
    (a.1.has (first_true (is_sound (exp_binds a.0)) (is_sound (exp_binds b.0)) h))
    (has-Long (long_at at (codes "true")) at)
    (b.1.has (second_true (is_sound (exp_binds a.0)) (is_sound (exp_binds b.0)) h))
exp_parts (FullExp-F.Handle inner rules at) h =
    let all = list_all passes (map rule_binds (map (λ h. h.0) rules)) in
    has-Handle (bare_exp inner.0).exp (map bare_rule (map (λ h. h.0) rules)) at
    (inner.1.has (first_true (is_sound (exp_binds inner.0)) all h))
    (rules_have rules (second_true (is_sound (exp_binds inner.0)) all h))
exp_parts (FullExp-F.Raise inner at) h = has-Raise (bare_exp inner.0).exp at (inner.1.has h)
exp_parts (FullExp-F.If a b c at) h =
    let first = is_sound (exp_binds a.0) in
    let second = is_sound (exp_binds b.0) in
    let third = is_sound (exp_binds c.0) in
    has-if at (bare_exp a.0).exp (bare_exp b.0).exp (bare_exp c.0).exp (a.1.has (first_true first (second && third) h))
    (b.1.has (first_true second third (second_true first (second && third) h)))
    (c.1.has (second_true second third (second_true first (second && third) h)))
exp_parts (FullExp-F.While a b at) h = has-while at (bare_exp a.0).exp (bare_exp b.0).exp
    (a.1.has (first_true (is_sound (exp_binds a.0)) (is_sound (exp_binds b.0)) h))
    (b.1.has (second_true (is_sound (exp_binds a.0)) (is_sound (exp_binds b.0)) h))
exp_parts (FullExp-F.Case subject rules at) h =
    let all = list_all passes (map rule_binds (map (λ h. h.0) rules)) in
    has-case at (bare_exp subject.0).exp (map bare_rule (map (λ h. h.0) rules))
    (subject.1.has (first_true (is_sound (exp_binds subject.0)) all h))
    (rules_have rules (second_true (is_sound (exp_binds subject.0)) all h))
exp_parts (FullExp-F.Fn rules at) h = has-Fn (map bare_rule (map (λ h. h.0) rules)) at (rules_have rules h)

exp_value : (y : FullExp-F HeldDec HeldExp HeldItem HeldClause HeldField HeldFun HeldRule HeldVal) → (exp_step (map-FullExp _ _ _ _ _ _ _ _ _ _ _ _ _ _ _ _ dec_binds exp_binds item_binds clause_binds field_binds fun_binds rule_binds val_binds (map-FullExp _ _ _ _ _ _ _ _ _ _ _ _ _ _ _ _ (λ h. h.0) (λ h. h.0) (λ h. h.0) (λ h. h.0) (λ h. h.0) (λ h. h.0) (λ h. h.0) (λ h. h.0) y))).function ≡ true → ValueE (exp_level (map-FullExp _ _ _ _ _ _ _ _ _ _ _ _ _ _ _ _ bare_dec bare_exp bare_item bare_clause bare_field bare_fun_bind bare_rule bare_val_bind (map-FullExp _ _ _ _ _ _ _ _ _ _ _ _ _ _ _ _ (λ h. h.0) (λ h. h.0) (λ h. h.0) (λ h. h.0) (λ h. h.0) (λ h. h.0) (λ h. h.0) (λ h. h.0) y))).exp
exp_value (FullExp-F.Constant a b) h = absurd (cc)
exp_value (FullExp-F.Long a b) h = absurd (cc)
exp_value (FullExp-F.Record a b) h = absurd (cc)
exp_value (FullExp-F.Unit a) h = absurd (cc)
exp_value (FullExp-F.Tuple a b) h = absurd (cc)
exp_value (FullExp-F.Sequence a b) h = absurd (cc)
exp_value (FullExp-F.Paren inner at) h = inner.1.value h
exp_value (FullExp-F.List a b) h = absurd (cc)
exp_value (FullExp-F.Let a b c) h = absurd (cc)
exp_value (FullExp-F.Run a b) h = absurd (cc)
exp_value (FullExp-F.Typed inner t at) h = value-Typed (bare_exp inner.0).exp (bare_ty t) at (inner.1.value h)
exp_value (FullExp-F.AndAlso a b c) h = absurd (cc)
exp_value (FullExp-F.OrElse a b c) h = absurd (cc)
exp_value (FullExp-F.Handle a b c) h = absurd (cc)
exp_value (FullExp-F.Raise a b) h = absurd (cc)
exp_value (FullExp-F.If a b c d) h = absurd (cc)
exp_value (FullExp-F.While a b c) h = absurd (cc)
exp_value (FullExp-F.Case a b c) h = absurd (cc)
exp_value (FullExp-F.Fn rules at) h = value-Fn (map bare_rule (map (λ h. h.0) rules)) at

dec_parts : (y : FullDec-F HeldDec HeldExp HeldItem HeldClause HeldField HeldFun HeldRule HeldVal) → dec_step (map-FullDec _ _ _ _ _ _ _ _ _ _ _ _ _ _ _ _ dec_binds exp_binds item_binds clause_binds field_binds fun_binds rule_binds val_binds (map-FullDec _ _ _ _ _ _ _ _ _ _ _ _ _ _ _ _ (λ h. h.0) (λ h. h.0) (λ h. h.0) (λ h. h.0) (λ h. h.0) (λ h. h.0) (λ h. h.0) (λ h. h.0) y)) ≡ true → AllItems HasD (dec_level (map-FullDec _ _ _ _ _ _ _ _ _ _ _ _ _ _ _ _ bare_dec bare_exp bare_item bare_clause bare_field bare_fun_bind bare_rule bare_val_bind (map-FullDec _ _ _ _ _ _ _ _ _ _ _ _ _ _ _ _ (λ h. h.0) (λ h. h.0) (λ h. h.0) (λ h. h.0) (λ h. h.0) (λ h. h.0) (λ h. h.0) (λ h. h.0) y))).decs
dec_parts (FullDec-F.Val tyvars binds at) h =
    let made = map bare_val_bind (map (λ h. h.0) binds) in
    let functions = recs_bind_functions (map val_binds (map (λ h. h.0) binds)) in
    let sound = list_all is_sound_bind (map val_binds (map (λ h. h.0) binds)) in
    let have = vals_have binds (second_true functions sound h) in (
      has-Val tyvars (plain_rules made) (rec_rules made) at (plain_have made have)
          (items_map HasR rule_of (rec_binds made) (recs_have made have))
          (items_map ValueR rule_of (rec_binds made) (from_rec binds (first_true functions sound h))),
      tt,
    )
dec_parts (FullDec-F.Fun tyvars binds at) h =
    let made = map bare_fun_bind (map (λ h. h.0) binds) in
    let have = funs_have binds h in
    (has-Val tyvars [] made at tt (only_have made have) (only_values made have), tt)
dec_parts (FullDec-F.Types binds at) h = (has-Types (map bare_typ_bind binds) at, tt)
dec_parts (FullDec-F.Datatypes binds at) h = (has-Datatypes (map bare_dat_bind binds) at, tt)
dec_parts (FullDec-F.Replication name long at) h = (has-Replication name long at, tt)
dec_parts (FullDec-F.Exceptions binds at) h = (has-Exceptions (map bare_ex_bind binds) at, tt)
dec_parts (FullDec-F.Local hidden decs at) h =
    let first = list_all passes (map dec_binds (map (λ h. h.0) hidden)) in
    let second = list_all passes (map dec_binds (map (λ h. h.0) decs)) in (
      has-Local (sequence_dec at (map bare_dec (map (λ h. h.0) hidden))) (sequence_dec at (map bare_dec (map (λ h. h.0) decs))) at
          (has-Sequence (flat_map decs_of (map bare_dec (map (λ h. h.0) hidden))) at (decs_have hidden (first_true first second h)))
          (has-Sequence (flat_map decs_of (map bare_dec (map (λ h. h.0) decs))) at (decs_have decs (second_true first second h))),
      tt,
    )
dec_parts (FullDec-F.Open longs at) h = (has-Open longs at, tt)
dec_parts (FullDec-F.Infix strength names at) h = tt
dec_parts (FullDec-F.Infixr strength names at) h = tt
dec_parts (FullDec-F.Nonfix names at) h = tt

item_parts : (y : FullExpItem-F HeldDec HeldExp HeldItem HeldClause HeldField HeldFun HeldRule HeldVal) → item_step (map-FullExpItem _ _ _ _ _ _ _ _ _ _ _ _ _ _ _ _ dec_binds exp_binds item_binds clause_binds field_binds fun_binds rule_binds val_binds (map-FullExpItem _ _ _ _ _ _ _ _ _ _ _ _ _ _ _ _ (λ h. h.0) (λ h. h.0) (λ h. h.0) (λ h. h.0) (λ h. h.0) (λ h. h.0) (λ h. h.0) (λ h. h.0) y)) ≡ true → HasPart (exp_item_level (map-FullExpItem _ _ _ _ _ _ _ _ _ _ _ _ _ _ _ _ bare_dec bare_exp bare_item bare_clause bare_field bare_fun_bind bare_rule bare_val_bind (map-FullExpItem _ _ _ _ _ _ _ _ _ _ _ _ _ _ _ _ (λ h. h.0) (λ h. h.0) (λ h. h.0) (λ h. h.0) (λ h. h.0) (λ h. h.0) (λ h. h.0) (λ h. h.0) y)))
item_parts (FullExpItem-F.Atom e) h = e.1.has h
item_parts (FullExpItem-F.Operator name fixity) h = tt

fun_parts : (y : FullFunBind-F HeldDec HeldExp HeldItem HeldClause HeldField HeldFun HeldRule HeldVal) → fun_step (map-FullFunBind _ _ _ _ _ _ _ _ _ _ _ _ _ _ _ _ dec_binds exp_binds item_binds clause_binds field_binds fun_binds rule_binds val_binds (map-FullFunBind _ _ _ _ _ _ _ _ _ _ _ _ _ _ _ _ (λ h. h.0) (λ h. h.0) (λ h. h.0) (λ h. h.0) (λ h. h.0) (λ h. h.0) (λ h. h.0) (λ h. h.0) y)) ≡ true → FunHas (fun_bind_level (map-FullFunBind _ _ _ _ _ _ _ _ _ _ _ _ _ _ _ _ bare_dec bare_exp bare_item bare_clause bare_field bare_fun_bind bare_rule bare_val_bind (map-FullFunBind _ _ _ _ _ _ _ _ _ _ _ _ _ _ _ _ (λ h. h.0) (λ h. h.0) (λ h. h.0) (λ h. h.0) (λ h. h.0) (λ h. h.0) (λ h. h.0) (λ h. h.0) y)))
fun_parts y h =
    let made = map bare_clause (map (λ h. h.0) y.clauses) in
    let first = first_takes (map clause_binds (map (λ h. h.0) y.clauses)) in
    let sound = list_all is_sound_clause (map clause_binds (map (λ h. h.0) y.clauses)) in
    record {
      has = has-fun y.at made
          (each_of is_sound_clause clause_binds HasC bare_clause (λ x q h. q.has h) y.clauses (second_true first sound h));
      value = value-fun y.at made (first_of y.clauses (first_true first sound h));
    }

-- ---- all phrases of the core

dec_step_is : (x : FullDec-F FullDec FullExp FullExpItem FullClause FullExpField FullFunBind FullRule FullValBind) (y : FullDec-F HeldDec HeldExp HeldItem HeldClause HeldField HeldFun HeldRule HeldVal) → map-FullDec _ _ _ _ _ _ _ _ _ _ _ _ _ _ _ _ (λ h. h.0) (λ h. h.0) (λ h. h.0) (λ h. h.0) (λ h. h.0) (λ h. h.0) (λ h. h.0) (λ h. h.0) y ≡ x → DecIs (roll-FullDec x)
unfolding dec_binds exp_binds item_binds clause_binds field_binds fun_binds rule_binds val_binds bare_dec bare_exp bare_item bare_clause bare_field bare_fun_bind bare_rule bare_val_bind
dec_step_is x y is = subst (λ (z : FullDec-F FullDec FullExp FullExpItem FullClause FullExpField FullFunBind FullRule FullValBind). DecIs (roll-FullDec z)) is (λ h. subst (λ (d : PlacedDec). AllItems HasD d.decs) (sym (fold-roll-FullDec _ _ _ _ _ _ _ _ dec_level exp_level exp_item_level clause_level exp_field_level fun_bind_level rule_level val_bind_level (map-FullDec _ _ _ _ _ _ _ _ _ _ _ _ _ _ _ _ (λ h. h.0) (λ h. h.0) (λ h. h.0) (λ h. h.0) (λ h. h.0) (λ h. h.0) (λ h. h.0) (λ h. h.0) y))) (dec_parts y (sym (fold-roll-FullDec _ _ _ _ _ _ _ _ dec_step exp_step item_step clause_step field_step fun_step rule_step val_step (map-FullDec _ _ _ _ _ _ _ _ _ _ _ _ _ _ _ _ (λ h. h.0) (λ h. h.0) (λ h. h.0) (λ h. h.0) (λ h. h.0) (λ h. h.0) (λ h. h.0) (λ h. h.0) y)) ∙ h)))

exp_step_is : (x : FullExp-F FullDec FullExp FullExpItem FullClause FullExpField FullFunBind FullRule FullValBind) (y : FullExp-F HeldDec HeldExp HeldItem HeldClause HeldField HeldFun HeldRule HeldVal) → map-FullExp _ _ _ _ _ _ _ _ _ _ _ _ _ _ _ _ (λ h. h.0) (λ h. h.0) (λ h. h.0) (λ h. h.0) (λ h. h.0) (λ h. h.0) (λ h. h.0) (λ h. h.0) y ≡ x → ExpIs (roll-FullExp x)
unfolding dec_binds exp_binds item_binds clause_binds field_binds fun_binds rule_binds val_binds bare_dec bare_exp bare_item bare_clause bare_field bare_fun_bind bare_rule bare_val_bind
exp_step_is x y is = subst (λ (z : FullExp-F FullDec FullExp FullExpItem FullClause FullExpField FullFunBind FullRule FullValBind). ExpIs (roll-FullExp z)) is (record {
  has = λ h. subst HasP (sym (fold-roll-FullExp _ _ _ _ _ _ _ _ dec_level exp_level exp_item_level clause_level exp_field_level fun_bind_level rule_level val_bind_level (map-FullExp _ _ _ _ _ _ _ _ _ _ _ _ _ _ _ _ (λ h. h.0) (λ h. h.0) (λ h. h.0) (λ h. h.0) (λ h. h.0) (λ h. h.0) (λ h. h.0) (λ h. h.0) y))) (exp_parts y (ap is_sound (sym (fold-roll-FullExp _ _ _ _ _ _ _ _ dec_step exp_step item_step clause_step field_step fun_step rule_step val_step (map-FullExp _ _ _ _ _ _ _ _ _ _ _ _ _ _ _ _ (λ h. h.0) (λ h. h.0) (λ h. h.0) (λ h. h.0) (λ h. h.0) (λ h. h.0) (λ h. h.0) (λ h. h.0) y))) ∙ h));
  value = λ h. subst (λ (p : PlacedExp). ValueE p.exp) (sym (fold-roll-FullExp _ _ _ _ _ _ _ _ dec_level exp_level exp_item_level clause_level exp_field_level fun_bind_level rule_level val_bind_level (map-FullExp _ _ _ _ _ _ _ _ _ _ _ _ _ _ _ _ (λ h. h.0) (λ h. h.0) (λ h. h.0) (λ h. h.0) (λ h. h.0) (λ h. h.0) (λ h. h.0) (λ h. h.0) y))) (exp_value y (ap (λ (facts : ExpFacts). facts.function) (sym (fold-roll-FullExp _ _ _ _ _ _ _ _ dec_step exp_step item_step clause_step field_step fun_step rule_step val_step (map-FullExp _ _ _ _ _ _ _ _ _ _ _ _ _ _ _ _ (λ h. h.0) (λ h. h.0) (λ h. h.0) (λ h. h.0) (λ h. h.0) (λ h. h.0) (λ h. h.0) (λ h. h.0) y))) ∙ h));
})

item_step_is : (x : FullExpItem-F FullDec FullExp FullExpItem FullClause FullExpField FullFunBind FullRule FullValBind) (y : FullExpItem-F HeldDec HeldExp HeldItem HeldClause HeldField HeldFun HeldRule HeldVal) → map-FullExpItem _ _ _ _ _ _ _ _ _ _ _ _ _ _ _ _ (λ h. h.0) (λ h. h.0) (λ h. h.0) (λ h. h.0) (λ h. h.0) (λ h. h.0) (λ h. h.0) (λ h. h.0) y ≡ x → ItemIs (roll-FullExpItem x)
unfolding dec_binds exp_binds item_binds clause_binds field_binds fun_binds rule_binds val_binds bare_dec bare_exp bare_item bare_clause bare_field bare_fun_bind bare_rule bare_val_bind
item_step_is x y is = subst (λ (z : FullExpItem-F FullDec FullExp FullExpItem FullClause FullExpField FullFunBind FullRule FullValBind). ItemIs (roll-FullExpItem z)) is (λ h. subst HasPart (sym (fold-roll-FullExpItem _ _ _ _ _ _ _ _ dec_level exp_level exp_item_level clause_level exp_field_level fun_bind_level rule_level val_bind_level (map-FullExpItem _ _ _ _ _ _ _ _ _ _ _ _ _ _ _ _ (λ h. h.0) (λ h. h.0) (λ h. h.0) (λ h. h.0) (λ h. h.0) (λ h. h.0) (λ h. h.0) (λ h. h.0) y))) (item_parts y (sym (fold-roll-FullExpItem _ _ _ _ _ _ _ _ dec_step exp_step item_step clause_step field_step fun_step rule_step val_step (map-FullExpItem _ _ _ _ _ _ _ _ _ _ _ _ _ _ _ _ (λ h. h.0) (λ h. h.0) (λ h. h.0) (λ h. h.0) (λ h. h.0) (λ h. h.0) (λ h. h.0) (λ h. h.0) y)) ∙ h)))

clause_step_is : (x : FullClause-F FullDec FullExp FullExpItem FullClause FullExpField FullFunBind FullRule FullValBind) (y : FullClause-F HeldDec HeldExp HeldItem HeldClause HeldField HeldFun HeldRule HeldVal) → map-FullClause _ _ _ _ _ _ _ _ _ _ _ _ _ _ _ _ (λ h. h.0) (λ h. h.0) (λ h. h.0) (λ h. h.0) (λ h. h.0) (λ h. h.0) (λ h. h.0) (λ h. h.0) y ≡ x → ClauseIs (roll-FullClause x)
unfolding dec_binds exp_binds item_binds clause_binds field_binds fun_binds rule_binds val_binds bare_dec bare_exp bare_item bare_clause bare_field bare_fun_bind bare_rule bare_val_bind
clause_step_is x y is = subst (λ (z : FullClause-F FullDec FullExp FullExpItem FullClause FullExpField FullFunBind FullRule FullValBind). ClauseIs (roll-FullClause z)) is (record {
  has = λ h. subst HasC (sym (fold-roll-FullClause _ _ _ _ _ _ _ _ dec_level exp_level exp_item_level clause_level exp_field_level fun_bind_level rule_level val_bind_level (map-FullClause _ _ _ _ _ _ _ _ _ _ _ _ _ _ _ _ (λ h. h.0) (λ h. h.0) (λ h. h.0) (λ h. h.0) (λ h. h.0) (λ h. h.0) (λ h. h.0) (λ h. h.0) y))) (has-result y.ty (bare_exp y.body.0) (y.body.1.has (ap is_sound_clause (sym (fold-roll-FullClause _ _ _ _ _ _ _ _ dec_step exp_step item_step clause_step field_step fun_step rule_step val_step (map-FullClause _ _ _ _ _ _ _ _ _ _ _ _ _ _ _ _ (λ h. h.0) (λ h. h.0) (λ h. h.0) (λ h. h.0) (λ h. h.0) (λ h. h.0) (λ h. h.0) (λ h. h.0) y))) ∙ h)));
  takes = λ h. ap (λ (c : BareClause). has_some c.args) (fold-roll-FullClause _ _ _ _ _ _ _ _ dec_level exp_level exp_item_level clause_level exp_field_level fun_bind_level rule_level val_bind_level (map-FullClause _ _ _ _ _ _ _ _ _ _ _ _ _ _ _ _ (λ h. h.0) (λ h. h.0) (λ h. h.0) (λ h. h.0) (λ h. h.0) (λ h. h.0) (λ h. h.0) (λ h. h.0) y)) ∙ head_has y.head (ap (λ (c : ClauseFacts). c.takes) (sym (fold-roll-FullClause _ _ _ _ _ _ _ _ dec_step exp_step item_step clause_step field_step fun_step rule_step val_step (map-FullClause _ _ _ _ _ _ _ _ _ _ _ _ _ _ _ _ (λ h. h.0) (λ h. h.0) (λ h. h.0) (λ h. h.0) (λ h. h.0) (λ h. h.0) (λ h. h.0) (λ h. h.0) y))) ∙ h);
})

field_step_is : (x : FullExpField-F FullDec FullExp FullExpItem FullClause FullExpField FullFunBind FullRule FullValBind) (y : FullExpField-F HeldDec HeldExp HeldItem HeldClause HeldField HeldFun HeldRule HeldVal) → map-FullExpField _ _ _ _ _ _ _ _ _ _ _ _ _ _ _ _ (λ h. h.0) (λ h. h.0) (λ h. h.0) (λ h. h.0) (λ h. h.0) (λ h. h.0) (λ h. h.0) (λ h. h.0) y ≡ x → FieldIs (roll-FullExpField x)
unfolding dec_binds exp_binds item_binds clause_binds field_binds fun_binds rule_binds val_binds bare_dec bare_exp bare_item bare_clause bare_field bare_fun_bind bare_rule bare_val_bind
field_step_is x y is = subst (λ (z : FullExpField-F FullDec FullExp FullExpItem FullClause FullExpField FullFunBind FullRule FullValBind). FieldIs (roll-FullExpField z)) is (λ h. subst HasF (sym (fold-roll-FullExpField _ _ _ _ _ _ _ _ dec_level exp_level exp_item_level clause_level exp_field_level fun_bind_level rule_level val_bind_level (map-FullExpField _ _ _ _ _ _ _ _ _ _ _ _ _ _ _ _ (λ h. h.0) (λ h. h.0) (λ h. h.0) (λ h. h.0) (λ h. h.0) (λ h. h.0) (λ h. h.0) (λ h. h.0) y))) (has-field y.label (bare_exp y.exp.0).exp (y.exp.1.has (sym (fold-roll-FullExpField _ _ _ _ _ _ _ _ dec_step exp_step item_step clause_step field_step fun_step rule_step val_step (map-FullExpField _ _ _ _ _ _ _ _ _ _ _ _ _ _ _ _ (λ h. h.0) (λ h. h.0) (λ h. h.0) (λ h. h.0) (λ h. h.0) (λ h. h.0) (λ h. h.0) (λ h. h.0) y)) ∙ h))))

fun_step_is : (x : FullFunBind-F FullDec FullExp FullExpItem FullClause FullExpField FullFunBind FullRule FullValBind) (y : FullFunBind-F HeldDec HeldExp HeldItem HeldClause HeldField HeldFun HeldRule HeldVal) → map-FullFunBind _ _ _ _ _ _ _ _ _ _ _ _ _ _ _ _ (λ h. h.0) (λ h. h.0) (λ h. h.0) (λ h. h.0) (λ h. h.0) (λ h. h.0) (λ h. h.0) (λ h. h.0) y ≡ x → FunIs (roll-FullFunBind x)
unfolding dec_binds exp_binds item_binds clause_binds field_binds fun_binds rule_binds val_binds bare_dec bare_exp bare_item bare_clause bare_field bare_fun_bind bare_rule bare_val_bind
fun_step_is x y is = subst (λ (z : FullFunBind-F FullDec FullExp FullExpItem FullClause FullExpField FullFunBind FullRule FullValBind). FunIs (roll-FullFunBind z)) is (λ h. subst FunHas (sym (fold-roll-FullFunBind _ _ _ _ _ _ _ _ dec_level exp_level exp_item_level clause_level exp_field_level fun_bind_level rule_level val_bind_level (map-FullFunBind _ _ _ _ _ _ _ _ _ _ _ _ _ _ _ _ (λ h. h.0) (λ h. h.0) (λ h. h.0) (λ h. h.0) (λ h. h.0) (λ h. h.0) (λ h. h.0) (λ h. h.0) y))) (fun_parts y (sym (fold-roll-FullFunBind _ _ _ _ _ _ _ _ dec_step exp_step item_step clause_step field_step fun_step rule_step val_step (map-FullFunBind _ _ _ _ _ _ _ _ _ _ _ _ _ _ _ _ (λ h. h.0) (λ h. h.0) (λ h. h.0) (λ h. h.0) (λ h. h.0) (λ h. h.0) (λ h. h.0) (λ h. h.0) y)) ∙ h)))

rule_step_is : (x : FullRule-F FullDec FullExp FullExpItem FullClause FullExpField FullFunBind FullRule FullValBind) (y : FullRule-F HeldDec HeldExp HeldItem HeldClause HeldField HeldFun HeldRule HeldVal) → map-FullRule _ _ _ _ _ _ _ _ _ _ _ _ _ _ _ _ (λ h. h.0) (λ h. h.0) (λ h. h.0) (λ h. h.0) (λ h. h.0) (λ h. h.0) (λ h. h.0) (λ h. h.0) y ≡ x → RuleIs (roll-FullRule x)
unfolding dec_binds exp_binds item_binds clause_binds field_binds fun_binds rule_binds val_binds bare_dec bare_exp bare_item bare_clause bare_field bare_fun_bind bare_rule bare_val_bind
rule_step_is x y is = subst (λ (z : FullRule-F FullDec FullExp FullExpItem FullClause FullExpField FullFunBind FullRule FullValBind). RuleIs (roll-FullRule z)) is (λ h. subst HasR (sym (fold-roll-FullRule _ _ _ _ _ _ _ _ dec_level exp_level exp_item_level clause_level exp_field_level fun_bind_level rule_level val_bind_level (map-FullRule _ _ _ _ _ _ _ _ _ _ _ _ _ _ _ _ (λ h. h.0) (λ h. h.0) (λ h. h.0) (λ h. h.0) (λ h. h.0) (λ h. h.0) (λ h. h.0) (λ h. h.0) y))) (has-rule (bare_pat y.pat).pat (bare_exp y.exp.0).exp (y.exp.1.has (sym (fold-roll-FullRule _ _ _ _ _ _ _ _ dec_step exp_step item_step clause_step field_step fun_step rule_step val_step (map-FullRule _ _ _ _ _ _ _ _ _ _ _ _ _ _ _ _ (λ h. h.0) (λ h. h.0) (λ h. h.0) (λ h. h.0) (λ h. h.0) (λ h. h.0) (λ h. h.0) (λ h. h.0) y)) ∙ h))))

val_step_is : (x : FullValBind-F FullDec FullExp FullExpItem FullClause FullExpField FullFunBind FullRule FullValBind) (y : FullValBind-F HeldDec HeldExp HeldItem HeldClause HeldField HeldFun HeldRule HeldVal) → map-FullValBind _ _ _ _ _ _ _ _ _ _ _ _ _ _ _ _ (λ h. h.0) (λ h. h.0) (λ h. h.0) (λ h. h.0) (λ h. h.0) (λ h. h.0) (λ h. h.0) (λ h. h.0) y ≡ x → ValIs (roll-FullValBind x)
unfolding dec_binds exp_binds item_binds clause_binds field_binds fun_binds rule_binds val_binds bare_dec bare_exp bare_item bare_clause bare_field bare_fun_bind bare_rule bare_val_bind
val_step_is x y is = subst (λ (z : FullValBind-F FullDec FullExp FullExpItem FullClause FullExpField FullFunBind FullRule FullValBind). ValIs (roll-FullValBind z)) is (record {
  recs = ap (λ (b : BindFacts). b.recs) (fold-roll-FullValBind _ _ _ _ _ _ _ _ dec_step exp_step item_step clause_step field_step fun_step rule_step val_step (map-FullValBind _ _ _ _ _ _ _ _ _ _ _ _ _ _ _ _ (λ h. h.0) (λ h. h.0) (λ h. h.0) (λ h. h.0) (λ h. h.0) (λ h. h.0) (λ h. h.0) (λ h. h.0) y)) ∙ sym (ap (λ (b : CountedRule). b.recs) (fold-roll-FullValBind _ _ _ _ _ _ _ _ dec_level exp_level exp_item_level clause_level exp_field_level fun_bind_level rule_level val_bind_level (map-FullValBind _ _ _ _ _ _ _ _ _ _ _ _ _ _ _ _ (λ h. h.0) (λ h. h.0) (λ h. h.0) (λ h. h.0) (λ h. h.0) (λ h. h.0) (λ h. h.0) (λ h. h.0) y)));
  has = λ h. subst HasB (sym (fold-roll-FullValBind _ _ _ _ _ _ _ _ dec_level exp_level exp_item_level clause_level exp_field_level fun_bind_level rule_level val_bind_level (map-FullValBind _ _ _ _ _ _ _ _ _ _ _ _ _ _ _ _ (λ h. h.0) (λ h. h.0) (λ h. h.0) (λ h. h.0) (λ h. h.0) (λ h. h.0) (λ h. h.0) (λ h. h.0) y))) (has-rule (bare_pat y.pat).pat (bare_exp y.exp.0).exp (y.exp.1.has (ap is_sound_bind (sym (fold-roll-FullValBind _ _ _ _ _ _ _ _ dec_step exp_step item_step clause_step field_step fun_step rule_step val_step (map-FullValBind _ _ _ _ _ _ _ _ _ _ _ _ _ _ _ _ (λ h. h.0) (λ h. h.0) (λ h. h.0) (λ h. h.0) (λ h. h.0) (λ h. h.0) (λ h. h.0) (λ h. h.0) y))) ∙ h)));
  value = λ h. subst ValueB (sym (fold-roll-FullValBind _ _ _ _ _ _ _ _ dec_level exp_level exp_item_level clause_level exp_field_level fun_bind_level rule_level val_bind_level (map-FullValBind _ _ _ _ _ _ _ _ _ _ _ _ _ _ _ _ (λ h. h.0) (λ h. h.0) (λ h. h.0) (λ h. h.0) (λ h. h.0) (λ h. h.0) (λ h. h.0) (λ h. h.0) y))) (value-rule (bare_pat y.pat).pat (bare_exp y.exp.0).exp (y.exp.1.value (ap is_function_bind (sym (fold-roll-FullValBind _ _ _ _ _ _ _ _ dec_step exp_step item_step clause_step field_step fun_step rule_step val_step (map-FullValBind _ _ _ _ _ _ _ _ _ _ _ _ _ _ _ _ (λ h. h.0) (λ h. h.0) (λ h. h.0) (λ h. h.0) (λ h. h.0) (λ h. h.0) (λ h. h.0) (λ h. h.0) y))) ∙ h)));
})

pub dec_is : (d : FullDec) → DecIs d
dec_is = ind-FullDec DecIs ExpIs ItemIs ClauseIs FieldIs FunIs RuleIs ValIs dec_step_is exp_step_is item_step_is clause_step_is field_step_is fun_step_is rule_step_is val_step_is
