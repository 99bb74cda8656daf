-- Expressions, matches and declarations have derivations.
use Rattle.std.proofs.Common.{◌≡◌, ◌≤◌, arith, ℕ, List, [], ◌∷◌, ◌++◌, refl, sym, ◌∙◌, subst, true}
use Rattle.unification.proofs.Walking.{and_both}
use Rattle.sml_trees.specs.declared.name.At.{At}
use Rattle.semantic_objects.specs.Tables.{Table, with_entry}
use Rattle.semantic_objects.specs.Environments.{Env, empty_env, modified_by}
use Rattle.unification.specs.Types.{Ty, Substitution}
use Rattle.bare_phrases.specs.Phrases.{TypPhrase, DatPhrase, ExpPhrase, ExpFields, Rules, DecPhrase, DecPhrases}
use Rattle.static_semantics.specs.BasicTypes.{int_ty, string_ty, char_ty, record_ty, reserved_constructors}
use Rattle.static_semantics.specs.Inferring.{Progress, Scope, Answer, under, name_at, unify_at, Bound, with_bound, under_bound, variable_entry, is_kept}
use Rattle.static_semantics.specs.TypeInference.{infer_ty, infer_types}
use Rattle.static_semantics.specs.PatternInference.{pat_at, infer_pat}
use Rattle.static_semantics.specs.DatatypeInference.{datatypes_of, infer_replication, exceptions_of}
use Rattle.static_semantics.specs.CoreInference.{rec_groups, exp_at, known_exp, applied, joined, handled, raised, within_let, infer_open, Group, added, own_variables, closed_val, RecPats, rec_bound, infer_exp, infer_exp_fields, infer_match, infer_rules, infer_binds, infer_rec_pats, infer_rec_exps, infer_dec, infer_decs}
use Rattle.static_semantics.specs.EnvironmentsPut.{put_env, put_scope}
use Rattle.static_semantics.specs.Nonexpansive.{is_nonexpansive, are_nonexpansive}
use Rattle.static_semantics.specs.Elaborates.{ElaboratesExp, ElaboratesDec, ElaboratesDecs}
use Rattle.static_semantics.specs.Holding.{Given, AllItems, AllRows}
use Rattle.static_semantics.specs.Growing.{TyIn, Grows, IsReady}
use Rattle.static_semantics.proofs.Holding.{given_then}
use Rattle.static_semantics.proofs.Growing.{grows_then, ty_later, rows_later, ready_later}
use Rattle.static_semantics.proofs.TypesGrow.{ListedIn, MadeIn, given_more}
use Rattle.static_semantics.proofs.DatatypesGrow.{ready_under}
use Rattle.static_semantics.proofs.CoreGrow.{ready_written, own_grows, ExpIn, BindsIn, GroupsIn, RecIn, RecsIn, recs_later, rec_pats_grow, rec_bound_in, binds_grow, ready_bound, exp_grows, match_grows, rec_exps_grow, dec_grows}
use Rattle.inference_laws.specs.Alike.{FirmType, FirmValue, AnyName, FirmEnv}
use Rattle.inference_laws.specs.Promises.{Any}
use Rattle.inference_laws.proofs.EnvsWith.{env_with_value, env_modified}
use Rattle.inference_laws.proofs.Firm.{dec_firm}
use Rattle.inference_laws.proofs.Making.{given_both}
use Rattle.datatype_laws.specs.Below.{TypesBelow}
use Rattle.datatype_laws.specs.Derived.{DatatypesDerived}
use Rattle.datatype_laws.proofs.Datatypes.{datatypes_have_derivations}
use Rattle.datatype_laws.proofs.Below.{below_later, bound_below, modified_below, dec_below}
use Rattle.phrase_laws.specs.Derived.{ExpDerived, ExpFieldsDerived, RulesDerived, MatchDerived, DecDerived, DecsDerived}
use Rattle.elaboration_laws.specs.Declaring.{IsValue, FieldsAreValues, AreValues, BindsValues, ExpHas, ExpFieldsHave, RulesHave, DecHas, DecsHave}
use Rattle.phrase_laws.proofs.Finding.{under_put, modified_put}
use Rattle.phrase_laws.proofs.Types.{given_new, TyDerived, ty_derives}
use Rattle.phrase_laws.proofs.Steps.{given_each, Joined, unify_known}
use Rattle.phrase_laws.proofs.Patterns.{PatKnown, pat_known}
use Rattle.elaboration_laws.proofs.Expressions.{exp_sized, constant_derived, long_derived, record_derived, no_fields_derived, field_derived, let_derived, within_derived, app_derived, typed_derived, handle_derived, raise_derived, fn_derived, no_rules_derived, no_match_derived, match_derived, rule_derived}
use Rattle.phrase_laws.proofs.TypeBindings.{TypesDerived, types_derive}
use Rattle.elaboration_laws.proofs.Bindings.{BindsDerived, no_binds_derived, bind_derived, RecPatsDerived, rec_pats_derive, RecExpsDerived, no_rec_exps_derived, rec_exp_derived}
use Rattle.elaboration_laws.proofs.Vals.{inner_scope, val_groups, val_derived, closed_given, sized_given}
use Rattle.elaboration_laws.proofs.Own.{OwnDerived, own_derives}
use Rattle.static_semantics.proofs.Ages.{Opened, ready_open}
use Rattle.elaboration_laws.proofs.Apart.{Chain, chain_later, binds_chain, RecsOwn, rec_pats_own, rec_groups_within, Apart, open_in, all_apart}
use Rattle.phrase_laws.proofs.Declarations.{dec_sized, stateless_derived, replication_derives, ExceptionsDerived, exceptions_derive, OpenDerived, open_derives}

-- ---- with what is known of how states grow

abbrev ExpKnown : Scope → ExpPhrase → Progress → Ty × Progress → Type 0
ExpKnown sc exp st r = ExpIn Any st r × ExpDerived sc exp st r

exp_with : (depth : ℕ) (sc : Scope) (exp : ExpPhrase) (st : Progress) → IsReady Any sc st
    → Given (ExpDerived sc exp st) (infer_exp depth sc exp st) → Given (ExpKnown sc exp st) (infer_exp depth sc exp st)
exp_with depth sc exp st h d = given_both (ExpIn Any st) (ExpDerived sc exp st) (infer_exp depth sc exp st)
    (exp_grows Any depth sc exp st h) d

abbrev MatchKnown : Scope → Rules → Progress → Ty × Progress → Type 0
MatchKnown sc rules st r = ExpIn Any st r × MatchDerived sc rules st r

match_with : (depth : ℕ) (sc : Scope) (rules : Rules) (st : Progress) → IsReady Any sc st
    → Given (MatchDerived sc rules st) (infer_match depth sc rules st)
    → Given (MatchKnown sc rules st) (infer_match depth sc rules st)
match_with depth sc rules st h d = given_both (ExpIn Any st) (MatchDerived sc rules st)
    (infer_match depth sc rules st) (match_grows Any depth sc rules st h) d

-- .. and that no variable of the table stands in the types of what is made, and the type names in them have numbers
-- below the next one
abbrev DecKnown : Scope → DecPhrase → Progress → Env × Progress → Type 0
DecKnown sc dec st r =
    MadeIn Any st r × (FirmEnv r.0 × (TypesBelow sc.home r.1.names r.0 × DecDerived sc dec st r))

dec_with : (depth : ℕ) (sc : Scope) (dec : DecPhrase) (st : Progress) → FirmEnv sc.env
    → TypesBelow sc.home st.names sc.env → IsReady Any sc st → Given (DecDerived sc dec st) (infer_dec depth sc dec st)
    → Given (DecKnown sc dec st) (infer_dec depth sc dec st)
dec_with depth sc dec st firm low h d =
    let Below : Env × Progress → Type 0 = λ r. TypesBelow sc.home r.1.names r.0 in
    given_both (MadeIn Any st) (λ r. FirmEnv r.0 × (Below r × DecDerived sc dec st r)) (infer_dec depth sc dec st)
    (dec_grows Any depth sc dec st h)
    (given_both (λ r. FirmEnv r.0) (λ r. Below r × DecDerived sc dec st r) (infer_dec depth sc dec st)
    (dec_firm depth sc dec st firm)
    (given_both Below (DecDerived sc dec st) (infer_dec depth sc dec st) (dec_below depth sc dec st firm h low) d))

low_later : (sc : Scope) (st u : Progress) → TypesBelow sc.home st.names sc.env → Grows Any st u
    → TypesBelow sc.home u.names sc.env
low_later sc st u h g = below_later sc.home st.names u.names sc.env g.names h

low_under : (sc : Scope) (st : Progress) (d : Env × Progress) → TypesBelow sc.home st.names sc.env → Grows Any st d.1
    → TypesBelow sc.home d.1.names d.0 → TypesBelow sc.home d.1.names (under d.0 sc).env
low_under sc st d h g k = modified_below sc.home d.1.names sc.env d.0 (low_later sc st d.1 h g) k

firm_bound : (rows : Bound) (env : Env) → FirmEnv env → FirmEnv (with_bound rows env)
firm_bound [] env h = h
firm_bound (row ∷ rows) env h = firm_bound rows _ (env_with_value AnyName FirmType FirmValue row.0
    (variable_entry row.1) env tt (λ e. absurd (cc)) h)

firm_under : (made : Env) (sc : Scope) → FirmEnv sc.env → FirmEnv made → FirmEnv (under made sc).env
firm_under made sc h k = env_modified AnyName FirmType FirmValue sc.env made h k

-- ---- `type`

types_derived : (sc : Scope) (binds : List TypPhrase) (at : At) (st : Progress) (r : Env × Progress)
    → TypesDerived sc binds empty_env st r → DecDerived sc (DecPhrase.Types binds at) st r
types_derived sc binds at st r h = record {
  solved = h.solved;
  leaves = h.leaves;
  derives = λ p q. subst
      (ElaboratesDec p.marks (put_scope p.stands sc) st.names (DecPhrase.Types binds at) (put_env p.stands r.0))
      (sym h.made)
      (ElaboratesDec.rule_16 p.marks (put_scope p.stands sc) st.names binds at (put_env p.stands r.0)
      (h.derives p.stands));
}

-- ---- `datatype`

datatypes_derived : (sc : Scope) (binds : List DatPhrase) (at : At) (st : Progress) (r : Env × Progress)
    → DatatypesDerived sc reserved_constructors binds st r → DecDerived sc (DecPhrase.Datatypes binds at) st r
datatypes_derived sc binds at st r d = record {
  solved = d.solved;
  leaves = d.leaves;
  derives = λ p q. subst
      (λ z. ElaboratesDec p.marks (put_scope p.stands sc) st.names (DecPhrase.Datatypes binds at) z r.1.names)
      (sym (d.stays p.stands ∙ d.made))
      (ElaboratesDec.rule_17 p.marks (put_scope p.stands sc) st.names r.1.names binds at d.choice d.dats d.distinct
      d.counted (d.derives p.stands) d.maximal d.names);
}

-- ---- declarations one after another

local_derived : (sc : Scope) (hidden shown : DecPhrase) (at : At) (st : Progress) (d r : Env × Progress)
    → DecDerived sc hidden st d → DecDerived (under d.0 sc) shown d.1 r
    → DecDerived sc (DecPhrase.Local hidden shown at) st r
local_derived sc hidden shown at st d r h k = record {
  solved = λ p q. h.solved p (k.solved p q);
  leaves = λ p q. h.leaves p (k.leaves p q);
  derives = λ p q. ElaboratesDec.rule_21 p.marks (put_scope p.stands sc) st.names d.1.names r.1.names hidden shown at
      (put_env p.stands d.0) (put_env p.stands r.0) (h.derives p (k.solved p q))
      (subst (λ z. ElaboratesDec p.marks z d.1.names shown (put_env p.stands r.0) r.1.names)
      (sym (under_put p.stands d.0 sc)) (k.derives p q));
}

decs_derived : (sc : Scope) (dec : DecPhrase) (rest : DecPhrases) (st : Progress) (d r : Env × Progress)
    → DecDerived sc dec st d → DecsDerived (under d.0 sc) rest d.1 r
    → DecsDerived sc (DecPhrases.Dec dec rest) st (modified_by d.0 r.0, r.1)
decs_derived sc dec rest st d r h k = record {
  solved = λ p q. h.solved p (k.solved p q);
  leaves = λ p q. h.leaves p (k.leaves p q);
  derives = λ p q. subst
      (λ z. ElaboratesDecs p.marks (put_scope p.stands sc) st.names (DecPhrases.Dec dec rest) z r.1.names)
      (modified_put p.stands d.0 r.0)
      (ElaboratesDecs.rule_24 p.marks (put_scope p.stands sc) st.names d.1.names r.1.names dec rest
      (put_env p.stands d.0) (put_env p.stands r.0) (h.derives p (k.solved p q))
      (subst (λ z. ElaboratesDecs p.marks z d.1.names rest (put_env p.stands r.0) r.1.names)
      (sym (under_put p.stands d.0 sc)) (k.derives p q)));
}

sequence_derived : (sc : Scope) (decs : DecPhrases) (at : At) (st : Progress) (r : Env × Progress)
    → DecsDerived sc decs st r → DecDerived sc (DecPhrase.Sequence decs at) st r
sequence_derived sc decs at st r h = record {
  solved = h.solved;
  leaves = h.leaves;
  derives = λ p q. ElaboratesDec.rules_23_24 p.marks (put_scope p.stands sc) st.names r.1.names decs at
      (put_env p.stands r.0) (h.derives p q);
}

-- ---- `val`

abbrev BindsKnown : Scope → Rules → Bound → List Group → Progress → Bound × List Group × Progress → Type 0
BindsKnown sc rules bound groups st r = BindsIn Any st r × BindsDerived sc rules bound groups st r

binds_with : (depth : ℕ) (sc : Scope) (rules : Rules) (bound : Bound) (groups : List Group) (st : Progress)
    → IsReady Any sc st → AllRows (TyIn Any st.types) bound → GroupsIn Any st.types groups
    → Given (BindsDerived sc rules bound groups st) (infer_binds depth sc rules bound groups st)
    → Given (BindsKnown sc rules bound groups st) (infer_binds depth sc rules bound groups st)
binds_with depth sc rules bound groups st h k l d =
    given_both (BindsIn Any st) (BindsDerived sc rules bound groups st) (infer_binds depth sc rules bound groups st)
    (binds_grow Any depth sc rules bound groups st h k l) d

abbrev RecPatsKnown : Scope → Rules → RecPats → Bound → Progress → RecPats × Progress → Type 0
RecPatsKnown sc rules made bound st r = RecsIn Any st r × RecPatsDerived sc rules made bound st r

rec_pats_with : (depth : ℕ) (sc : Scope) (rules : Rules) (made : RecPats) (bound : Bound) (st : Progress)
    → FirmEnv sc.env → IsReady Any sc st → AllItems (RecIn Any st.types) made → AllRows (TyIn Any st.types) bound
    → Given (RecPatsKnown sc rules made bound st) (infer_rec_pats depth sc rules made bound st)
rec_pats_with depth sc rules made bound st firm h k l =
    given_both (RecsIn Any st) (RecPatsDerived sc rules made bound st) (infer_rec_pats depth sc rules made bound st)
    (rec_pats_grow Any depth sc rules made bound st h k l) (rec_pats_derive depth sc rules made bound st firm h l)

with_made : (sc : Scope) (dec : DecPhrase) (st : Progress) (m : Answer (Env × Progress)) → Given (MadeIn Any st) m
    → Given (λ r. MadeIn Any st r → DecDerived sc dec st r) m → Given (DecDerived sc dec st) m
with_made sc dec st m h k = given_more (λ r. MadeIn Any st r × (MadeIn Any st r → DecDerived sc dec st r))
    (DecDerived sc dec st) m (λ r i. i.1 i.0)
    (given_both (MadeIn Any st) (λ r. MadeIn Any st r → DecDerived sc dec st r) m h k)

mutual
  value_flag : (env : Env) (exp : ExpPhrase) → IsValue exp → is_nonexpansive env exp ≡ true
  value_flag env (ExpPhrase.Int value at) h = refl
  value_flag env (ExpPhrase.Str value at) h = refl
  value_flag env (ExpPhrase.Char value at) h = refl
  value_flag env (ExpPhrase.Long long at) h = refl
  value_flag env (ExpPhrase.Record fields at) h = fields_flag env fields h
  value_flag env (ExpPhrase.Let dec body at) h = absurd h
  value_flag env (ExpPhrase.App function argument at) h = absurd h
  value_flag env (ExpPhrase.Typed exp ty at) h = value_flag env exp h
  value_flag env (ExpPhrase.Handle exp rules at) h = absurd h
  value_flag env (ExpPhrase.Raise exp at) h = absurd h
  value_flag env (ExpPhrase.Fn rules at) h = refl

  fields_flag : (env : Env) (fields : ExpFields) → FieldsAreValues fields → are_nonexpansive env fields ≡ true
  fields_flag env ExpFields.EndOfFields h = refl
  fields_flag env (ExpFields.Field label exp rest) h =
      and_both (is_nonexpansive env exp) (are_nonexpansive env rest) (value_flag env exp h.0) (fields_flag env rest h.1)

-- `rec` bindings whose right sides are such expressions are closed
rec_closed : (env : Env) (rules : Rules) (rows : RecPats) → AreValues rules
    → AllItems (λ (group : Group). group.0 ≡ true) (rec_groups env rules rows)
rec_closed env Rules.EndOfRules rows h = tt
rec_closed env (Rules.Rule pat exp rest) [] h = tt
rec_closed env (Rules.Rule pat exp rest) (row ∷ rows) h = (value_flag env exp h.0, rec_closed env rest rows h.1)

-- ---- the phrases

mutual
  pub exp_derives : (depth : ℕ) (sc : Scope) (exp : ExpPhrase) (st : Progress) → ExpHas BindsValues exp → FirmEnv sc.env
      → TypesBelow sc.home st.names sc.env → IsReady Any sc st → Given (ExpDerived sc exp st) (infer_exp depth sc exp st)
  exp_derives depth sc (ExpPhrase.Int value at) st has firm low h = exp_sized sc (ExpPhrase.Int value at) st at (int_ty, st)
      (constant_derived sc (ExpPhrase.Int value at) int_ty st
      (λ p. ElaboratesExp.rule_1_int p.marks (put_scope p.stands sc) st.names value at))
  exp_derives depth sc (ExpPhrase.Str value at) st has firm low h =
      exp_sized sc (ExpPhrase.Str value at) st at (string_ty, st)
      (constant_derived sc (ExpPhrase.Str value at) string_ty st
      (λ p. ElaboratesExp.rule_1_string p.marks (put_scope p.stands sc) st.names value at))
  exp_derives depth sc (ExpPhrase.Char value at) st has firm low h =
      exp_sized sc (ExpPhrase.Char value at) st at (char_ty, st)
      (constant_derived sc (ExpPhrase.Char value at) char_ty st
      (λ p. ElaboratesExp.rule_1_char p.marks (put_scope p.stands sc) st.names value at))
  exp_derives depth sc (ExpPhrase.Long long at) st has firm low h =
      let Q : Ty × Progress → Type 0 = ExpDerived sc (ExpPhrase.Long long at) st in
      given_then Q Q (known_exp sc long st) _ (long_derived sc long at st firm h)
      (λ r k. exp_sized sc (ExpPhrase.Long long at) st at r k)
  exp_derives depth sc (ExpPhrase.Record fields at) st has firm low h =
      given_then (ExpFieldsDerived sc fields [] st) (ExpDerived sc (ExpPhrase.Record fields at) st)
      (infer_exp_fields depth sc fields [] st) _ (exp_fields_derive depth sc fields [] st has firm low h) (λ r k.
      exp_sized sc (ExpPhrase.Record fields at) st at (record_ty r.0, r.1) (record_derived sc fields at st r k))
  exp_derives depth sc (ExpPhrase.Let dec body at) st has firm low h =
      let Q : Ty × Progress → Type 0 = ExpDerived sc (ExpPhrase.Let dec body at) st in
      given_then (DecKnown sc dec st) Q (infer_dec depth sc dec st) _
      (dec_with depth sc dec st firm low h (dec_derives depth sc dec st has.0 firm low h)) (λ d k.
      given_then (ExpDerived (under d.0 sc) body d.1) Q (infer_exp depth (under d.0 sc) body d.1) _
      (exp_derives depth (under d.0 sc) body d.1 has.1 (firm_under d.0 sc firm k.1.0)
      (low_under sc st d low k.0.0 k.1.1.0)
      (ready_under Any d.0 sc d.1 k.0.1 (ready_later Any sc st d.1 h k.0.0))) (λ r l.
      given_then Q Q (within_let sc at st.names d.1.names r) _
      (within_derived sc (ExpPhrase.Let dec body at) st at st.names d.1.names r
      (let_derived sc dec body at st d r k.1.1.1 l)) (λ v m.
      exp_sized sc (ExpPhrase.Let dec body at) st at v m)))
  exp_derives depth sc (ExpPhrase.App function argument at) st has firm low h =
      let Q : Ty × Progress → Type 0 = ExpDerived sc (ExpPhrase.App function argument at) st in
      given_then (ExpKnown sc function st) Q (infer_exp depth sc function st) _
      (exp_with depth sc function st h (exp_derives depth sc function st has.0 firm low h)) (λ f k.
      let ready : IsReady Any sc f.1 = ready_later Any sc st f.1 h k.0.0 in
      given_then (ExpKnown sc argument f.1) Q (infer_exp depth sc argument f.1) _
      (exp_with depth sc argument f.1 ready (exp_derives depth sc argument f.1 has.1 firm (low_later sc st f.1 low k.0.0) ready)) (λ a l.
      given_then Q Q (applied depth sc at f.0 a.0 a.1) _
      (app_derived depth sc function argument at st f a (ready_later Any sc f.1 a.1 ready l.0.0) k.1 l.1) (λ r m.
      exp_sized sc (ExpPhrase.App function argument at) st at r m)))
  exp_derives depth sc (ExpPhrase.Typed exp ty at) st has firm low h =
      let Q : Ty × Progress → Type 0 = ExpDerived sc (ExpPhrase.Typed exp ty at) st in
      given_then (ExpKnown sc exp st) Q (infer_exp depth sc exp st) _
      (exp_with depth sc exp st h (exp_derives depth sc exp st has firm low h)) (λ e k.
      given_then (λ t. (s : Substitution) → TyDerived s sc ty t) Q (infer_ty sc ty) _
      (given_each (λ s. TyDerived s sc ty) (infer_ty sc ty) (λ s. ty_derives s sc ty)) (λ t d.
      given_then Q Q (joined depth sc at e.0 t e.1) _
      (typed_derived depth sc exp ty at st e t (ready_later Any sc st e.1 h k.0.0) k.1 d) (λ r m.
      exp_sized sc (ExpPhrase.Typed exp ty at) st at r m)))
  exp_derives depth sc (ExpPhrase.Handle exp rules at) st has firm low h =
      let Q : Ty × Progress → Type 0 = ExpDerived sc (ExpPhrase.Handle exp rules at) st in
      given_then (ExpKnown sc exp st) Q (infer_exp depth sc exp st) _
      (exp_with depth sc exp st h (exp_derives depth sc exp st has.0 firm low h)) (λ e k.
      let ready : IsReady Any sc e.1 = ready_later Any sc st e.1 h k.0.0 in
      given_then (MatchKnown sc rules e.1) Q (infer_match depth sc rules e.1) _
      (match_with depth sc rules e.1 ready (match_derives depth sc rules e.1 has.1 firm (low_later sc st e.1 low k.0.0) ready)) (λ m l.
      given_then Q Q (handled depth sc at e.0 m.0 m.1) _
      (handle_derived depth sc exp rules at st e m (ready_later Any sc e.1 m.1 ready l.0.0) k.1 l.1) (λ r i.
      exp_sized sc (ExpPhrase.Handle exp rules at) st at r i)))
  exp_derives depth sc (ExpPhrase.Raise exp at) st has firm low h =
      let Q : Ty × Progress → Type 0 = ExpDerived sc (ExpPhrase.Raise exp at) st in
      given_then (ExpKnown sc exp st) Q (infer_exp depth sc exp st) _
      (exp_with depth sc exp st h (exp_derives depth sc exp st has firm low h)) (λ e k.
      given_then Q Q (raised depth sc at e.0 e.1) _
      (raise_derived depth sc exp at st e (ready_later Any sc st e.1 h k.0.0) k.0.1 k.1) (λ r l.
      exp_sized sc (ExpPhrase.Raise exp at) st at r l))
  exp_derives depth sc (ExpPhrase.Fn rules at) st has firm low h =
      given_then (MatchDerived sc rules st) (ExpDerived sc (ExpPhrase.Fn rules at) st) (infer_match depth sc rules st) _
      (match_derives depth sc rules st has firm low h)
      (λ r k. exp_sized sc (ExpPhrase.Fn rules at) st at r (fn_derived sc rules at st r k))

  pub exp_fields_derive : (depth : ℕ) (sc : Scope) (fields : ExpFields) (made : Table Ty) (st : Progress)
      → ExpFieldsHave BindsValues fields → FirmEnv sc.env → TypesBelow sc.home st.names sc.env
      → IsReady Any sc st
      → Given (ExpFieldsDerived sc fields made st) (infer_exp_fields depth sc fields made st)
  exp_fields_derive depth sc ExpFields.EndOfFields made st has firm low h = no_fields_derived sc made st
  exp_fields_derive depth sc (ExpFields.Field label exp rest) made st has firm low h =
      let Q : Table Ty × Progress → Type 0 = ExpFieldsDerived sc (ExpFields.Field label exp rest) made st in
      given_new Q label.text made 40 sc (name_at label) _ (λ e.
      given_then (ExpKnown sc exp st) Q (infer_exp depth sc exp st) _
      (exp_with depth sc exp st h (exp_derives depth sc exp st has.0 firm low h)) (λ r k.
      given_more (ExpFieldsDerived sc rest (with_entry label.text r.0 made) r.1) Q
      (infer_exp_fields depth sc rest (with_entry label.text r.0 made) r.1)
      (λ v l. field_derived sc label exp rest made st r v e k.1 l)
      (exp_fields_derive depth sc rest (with_entry label.text r.0 made) r.1 has.1 firm
      (low_later sc st r.1 low k.0.0) (ready_later Any sc st r.1 h k.0.0))))

  pub match_derives : (depth : ℕ) (sc : Scope) (rules : Rules) (st : Progress) → RulesHave BindsValues rules
      → FirmEnv sc.env → TypesBelow sc.home st.names sc.env
      → IsReady Any sc st → Given (MatchDerived sc rules st) (infer_match depth sc rules st)
  match_derives depth sc Rules.EndOfRules st has firm low h = no_match_derived sc st h
  match_derives depth sc (Rules.Rule pat exp rest) st has firm low h =
      let Q : Ty × Progress → Type 0 = MatchDerived sc (Rules.Rule pat exp rest) st in
      given_then (PatKnown sc pat [] st) Q (infer_pat depth sc pat [] st) _
      (pat_known depth sc pat [] st firm h tt) (λ r i.
      let ready : IsReady Any (under_bound r.1 sc) r.2 =
      ready_bound Any r.1 sc r.2 i.0.2 (ready_later Any sc st r.2 h i.0.0) in
      given_then (ExpKnown (under_bound r.1 sc) exp r.2) Q (infer_exp depth (under_bound r.1 sc) exp r.2) _
      (exp_with depth (under_bound r.1 sc) exp r.2 ready
      (exp_derives depth (under_bound r.1 sc) exp r.2 has.0 (firm_bound r.1 sc.env firm)
      (bound_below sc.home r.2.names r.1 sc.env (low_later sc st r.2 low i.0.0)) ready)) (λ e k.
      let g : Grows Any st e.1 = grows_then Any st r.2 e.1 i.0.0 k.0.0 in
      given_then (RulesDerived sc r.0 e.0 rest e.1) Q (infer_rules depth sc r.0 e.0 rest e.1) _
      (rules_derive depth sc r.0 e.0 rest e.1 has.1 firm (low_later sc st e.1 low g) (ready_later Any sc st e.1 h g)
      (ty_later Any r.2 e.1 r.0 k.0.0 i.0.1) k.0.1) (λ u l.
      match_derived sc pat exp rest st r e u i.1 k.1 l)))

  pub rules_derive : (depth : ℕ) (sc : Scope) (from to : Ty) (rules : Rules) (st : Progress)
      → RulesHave BindsValues rules → FirmEnv sc.env → TypesBelow sc.home st.names sc.env
      → IsReady Any sc st → TyIn Any st.types from → TyIn Any st.types to
      → Given (RulesDerived sc from to rules st) (infer_rules depth sc from to rules st)
  rules_derive depth sc from to Rules.EndOfRules st has firm low h f t = no_rules_derived sc from to st
  rules_derive depth sc from to (Rules.Rule pat exp rest) st has firm low h f t =
      let Q : Progress → Type 0 = RulesDerived sc from to (Rules.Rule pat exp rest) st in
      given_then (PatKnown sc pat [] st) Q (infer_pat depth sc pat [] st) _
      (pat_known depth sc pat [] st firm h tt) (λ r i.
      given_then (λ s. Grows Any r.2 s × Joined r.0 from r.2 s) Q (unify_at depth sc (pat_at pat) r.0 from r.2) _
      (unify_known depth sc (pat_at pat) r.0 from r.2 i.0.0.fit i.0.1 (ty_later Any st r.2 from i.0.0 f)) (λ s j.
      let g : Grows Any st s = grows_then Any st r.2 s i.0.0 j.0 in
      let ready : IsReady Any (under_bound r.1 sc) s =
      ready_bound Any r.1 sc s (rows_later Any r.2 s r.1 j.0 i.0.2) (ready_later Any sc st s h g) in
      given_then (ExpKnown (under_bound r.1 sc) exp s) Q (infer_exp depth (under_bound r.1 sc) exp s) _
      (exp_with depth (under_bound r.1 sc) exp s ready
      (exp_derives depth (under_bound r.1 sc) exp s has.0 (firm_bound r.1 sc.env firm)
      (bound_below sc.home s.names r.1 sc.env (low_later sc st s low g)) ready)) (λ e k.
      let before : Grows Any st e.1 = grows_then Any st s e.1 g k.0.0 in
      given_then (λ u. Grows Any e.1 u × Joined e.0 to e.1 u) Q (unify_at depth sc (exp_at exp) e.0 to e.1) _
      (unify_known depth sc (exp_at exp) e.0 to e.1 k.0.0.fit k.0.1 (ty_later Any st e.1 to before t)) (λ u m.
      let all : Grows Any st u = grows_then Any st e.1 u before m.0 in
      given_more (RulesDerived sc from to rest u) Q (infer_rules depth sc from to rest u)
      (λ v l. rule_derived sc from to pat exp rest st r s e u v i.1 j.1 k.1 m.1 l)
      (rules_derive depth sc from to rest u has.1 firm (low_later sc st u low all) (ready_later Any sc st u h all) (ty_later Any st u from all f)
      (ty_later Any st u to all t))))))

  binds_derive : (depth : ℕ) (sc : Scope) (rules : Rules) (bound : Bound) (groups : List Group) (st : Progress)
      → RulesHave BindsValues rules → FirmEnv sc.env → TypesBelow sc.home st.names sc.env
      → IsReady Any sc st → AllRows (TyIn Any st.types) bound
      → Given (BindsDerived sc rules bound groups st) (infer_binds depth sc rules bound groups st)
  binds_derive depth sc Rules.EndOfRules bound groups st has firm low h k = no_binds_derived sc bound groups st
  binds_derive depth sc (Rules.Rule pat exp rest) bound groups st has firm low h k =
      let Q : Bound × List Group × Progress → Type 0 = BindsDerived sc (Rules.Rule pat exp rest) bound groups st in
      given_then (PatKnown sc pat bound st) Q (infer_pat depth sc pat bound st) _
      (pat_known depth sc pat bound st firm h k) (λ r i.
      let ready : IsReady Any sc r.2 = ready_later Any sc st r.2 h i.0.0 in
      given_then (ExpKnown sc exp r.2) Q (infer_exp depth sc exp r.2) _
      (exp_with depth sc exp r.2 ready (exp_derives depth sc exp r.2 has.0 firm (low_later sc st r.2 low i.0.0) ready)) (λ e j.
      given_then (λ u. Grows Any e.1 u × Joined r.0 e.0 e.1 u) Q (unify_at depth sc (pat_at pat) r.0 e.0 e.1) _
      (unify_known depth sc (pat_at pat) r.0 e.0 e.1 j.0.0.fit (ty_later Any r.2 e.1 r.0 j.0.0 i.0.1) j.0.1) (λ u m.
      let g : Grows Any r.2 u = grows_then Any r.2 e.1 u j.0.0 m.0 in
      let more : List Group = groups ++ (is_nonexpansive sc.env exp, added bound r.1) ∷ [] in
      given_more (BindsDerived sc rest r.1 more u) Q (infer_binds depth sc rest r.1 more u)
      (λ v l. bind_derived sc pat exp rest bound groups st r e u v i.1 j.1 m.1 l)
      (binds_derive depth sc rest r.1 more u has.1 firm
      (low_later sc r.2 u (low_later sc st r.2 low i.0.0) g) (ready_later Any sc r.2 u ready g)
      (rows_later Any r.2 u r.1 g i.0.2)))))

  rec_exps_derive : (depth : ℕ) (sc inner : Scope) (rules : Rules) (rows : RecPats) (st : Progress)
      → RulesHave BindsValues rules → FirmEnv inner.env → TypesBelow inner.home st.names inner.env
      → IsReady Any inner st → AllItems (RecIn Any st.types) rows
      → Given (RecExpsDerived sc inner rules rows st) (infer_rec_exps depth inner rules rows st)
  rec_exps_derive depth sc inner Rules.EndOfRules rows st has firm low h k = no_rec_exps_derived sc inner rows st
  rec_exps_derive depth sc inner (Rules.Rule pat exp rest) [] st has firm low h k = tt
  rec_exps_derive depth sc inner (Rules.Rule pat exp rest) (row ∷ rows) st has firm low h k =
      let Q : Progress → Type 0 = RecExpsDerived sc inner (Rules.Rule pat exp rest) (row ∷ rows) st in
      given_then (ExpKnown inner exp st) Q (infer_exp depth inner exp st) _
      (exp_with depth inner exp st h (exp_derives depth inner exp st has.0 firm low h)) (λ e j.
      given_then (λ u. Grows Any e.1 u × Joined row.0 e.0 e.1 u) Q
      (unify_at depth inner (pat_at pat) row.0 e.0 e.1) _
      (unify_known depth inner (pat_at pat) row.0 e.0 e.1 j.0.0.fit (ty_later Any st e.1 row.0 j.0.0 k.0.0) j.0.1)
      (λ u m.
      let g : Grows Any st u = grows_then Any st e.1 u j.0.0 m.0 in
      given_more (RecExpsDerived sc inner rest rows u) Q (infer_rec_exps depth inner rest rows u)
      (λ v l. rec_exp_derived sc inner pat exp rest row rows st e u v j.1 m.1 l)
      (rec_exps_derive depth sc inner rest rows u has.1 firm (low_later inner st u low g) (ready_later Any inner st u h g)
      (recs_later Any st u rows g k.1))))

  pub dec_derives : (depth : ℕ) (sc : Scope) (dec : DecPhrase) (st : Progress) → DecHas BindsValues dec → FirmEnv sc.env
      → TypesBelow sc.home st.names sc.env → IsReady Any sc st → Given (DecDerived sc dec st) (infer_dec depth sc dec st)
  dec_derives depth sc (DecPhrase.Val tyvars rules recs at) st has firm low h =
      let dec : DecPhrase = DecPhrase.Val tyvars rules recs at in
      let Q : Env × Progress → Type 0 = λ r. MadeIn Any st r → DecDerived sc dec st r in
      with_made sc dec st (infer_dec depth sc dec st) (dec_grows Any depth sc dec st h)
      (given_then (λ own. ListedIn Any st own × OwnDerived sc tyvars rules recs st own) Q
      (own_variables sc tyvars rules recs st) _
      (given_both (ListedIn Any st) (OwnDerived sc tyvars rules recs st) (own_variables sc tyvars rules recs st)
      (own_grows Any sc tyvars rules recs st h) (own_derives sc tyvars rules recs st h.fit)) (λ own o.
      let inner : Scope = inner_scope own.0 sc in
      let ready : IsReady Any inner own.1 =
      ready_written Any own.0 sc own.1 o.0.1 (ready_later Any sc st own.1 h o.0.0) in
      let from : ℕ = own.1.types.next in
      given_then (λ b. BindsKnown inner rules [] [] own.1 b × Chain inner b.2.types from b.1 b.2.types.next) Q
      (infer_binds depth inner rules [] [] own.1) _
      (given_both (BindsKnown inner rules [] [] own.1) (λ b. Chain inner b.2.types from b.1 b.2.types.next)
      (infer_binds depth inner rules [] [] own.1)
      (binds_with depth inner rules [] [] own.1 ready tt tt
      (binds_derive depth inner rules [] [] own.1 has.1 firm (low_later sc st own.1 low o.0.0) ready tt))
      (binds_chain inner depth rules [] [] own.1 from ready (let z : from ≤ from = omega arith in z))) (λ b k.
      let at_b : IsReady Any inner b.2 = ready_later Any inner own.1 b.2 ready k.0.0.0 in
      let P : ℕ → Type 0 = Opened inner b.2.types in
      let open_b : IsReady P inner b.2 = ready_open inner b.2 at_b in
      given_then (λ c. RecPatsKnown inner recs [] b.0 b.2 c × RecsOwn inner P b.2 c) Q
      (infer_rec_pats depth inner recs [] b.0 b.2) _
      (given_both (RecPatsKnown inner recs [] b.0 b.2) (RecsOwn inner P b.2)
      (infer_rec_pats depth inner recs [] b.0 b.2)
      (rec_pats_with depth inner recs [] b.0 b.2 firm at_b tt k.0.0.1)
      (rec_pats_own inner P depth recs [] b.0 b.2 open_b tt)) (λ c l.
      let inmost : Scope = under_bound (rec_bound c.0) inner in
      let open_c : IsReady P inmost c.1 =
      ready_bound P (rec_bound c.0) inner c.1 (rec_bound_in P c.1.types c.0 l.1.1)
      (ready_later P inner b.2 c.1 open_b l.1.0) in
      given_then (λ u. RecExpsDerived inner inmost recs c.0 c.1 u × Grows P c.1 u) Q
      (infer_rec_exps depth inmost recs c.0 c.1) _
      (given_both (RecExpsDerived inner inmost recs c.0 c.1) (Grows P c.1) (infer_rec_exps depth inmost recs c.0 c.1)
      (rec_exps_derive depth inner inmost recs c.0 c.1 has.2 (firm_bound (rec_bound c.0) sc.env firm)
      (bound_below sc.home c.1.names (rec_bound c.0) sc.env (low_later inner b.2 c.1
      (low_later inner own.1 b.2 (low_later sc st own.1 low o.0.0) k.0.0.0) l.0.0.0))
      (ready_bound Any (rec_bound c.0) inner c.1 (rec_bound_in Any c.1.types c.0 l.0.0.1)
      (ready_later Any inner b.2 c.1 at_b l.0.0.0)) l.0.0.1)
      (rec_exps_grow P depth inmost recs c.0 c.1 open_c l.1.1)) (λ u m.
      let after : Grows P b.2 u = grows_then P b.2 c.1 u l.1.0 m.1 in
      let recs_apart : List Group = rec_groups sc.env recs c.0 in
      let apart : AllItems (Apart inner u.types (λ v. open_in inner u.types v (b.1 ++ recs_apart) ≡ true))
      (b.1 ++ recs_apart) =
      all_apart inner u.types from b.2.types.next u.types.next b.1 recs_apart
      (chain_later inner b.2 u from b.1 b.2.types.next after
      (let z : b.2.types.next ≤ b.2.types.next = omega arith in z) k.1)
      (rec_groups_within inner sc.env b.2 u recs c.0 at_b.fit after (recs_later P c.1 u c.0 m.1 l.1.1))
      (rec_closed sc.env recs c.0 has.0) in
      given_then Q Q (closed_val sc at (is_kept sc u.types.stands) own.0 (val_groups sc recs b c) u) _
      (closed_given Q sc at own.0 (val_groups sc recs b c) u
      (λ left grown. val_derived sc rules recs at st b c u tyvars own o.1 apart k.0.1 l.0.1 m.0 h grown left))
      (λ r n. sized_given Q sc at r n))))))
  dec_derives depth sc (DecPhrase.Types binds at) st has firm low h =
      let dec : DecPhrase = DecPhrase.Types binds at in
      given_then (TypesDerived sc binds empty_env st) (DecDerived sc dec st) (infer_types sc binds empty_env st) _
      (types_derive sc binds empty_env st firm h.fit)
      (λ r k. dec_sized sc dec st at r (types_derived sc binds at st r k))
  dec_derives depth sc (DecPhrase.Datatypes binds at) st has firm low h =
      let dec : DecPhrase = DecPhrase.Datatypes binds at in
      given_then (DatatypesDerived sc reserved_constructors binds st) (DecDerived sc dec st)
      (datatypes_of sc reserved_constructors binds st) _
      (datatypes_have_derivations.all sc reserved_constructors binds st firm low h.fit)
      (λ r k. dec_sized sc dec st at r (datatypes_derived sc binds at st r k))
  dec_derives depth sc (DecPhrase.Replication name long at) st has firm low h =
      let dec : DecPhrase = DecPhrase.Replication name long at in
      given_then (λ made. DecDerived sc dec st (made, st)) (DecDerived sc dec st) (infer_replication sc name long) _
      (replication_derives sc name long at st) (λ made k. dec_sized sc dec st at (made, st) k)
  dec_derives depth sc (DecPhrase.Exceptions binds at) st has firm low h =
      let dec : DecPhrase = DecPhrase.Exceptions binds at in
      given_then (ExceptionsDerived sc binds empty_env) (DecDerived sc dec st) (exceptions_of sc binds) _
      (exceptions_derive sc binds empty_env firm) (λ made k. dec_sized sc dec st at (made, st)
      (stateless_derived sc dec st made (λ p. ElaboratesDec.rule_20 p.marks (put_scope p.stands sc) st.names binds at
      (put_env p.stands made) (k p.stands))))
  dec_derives depth sc (DecPhrase.Local hidden shown at) st has firm low h =
      let Q : Env × Progress → Type 0 = DecDerived sc (DecPhrase.Local hidden shown at) st in
      given_then (DecKnown sc hidden st) Q (infer_dec depth sc hidden st) _
      (dec_with depth sc hidden st firm low h (dec_derives depth sc hidden st has.0 firm low h)) (λ d k.
      given_then (DecDerived (under d.0 sc) shown d.1) Q (infer_dec depth (under d.0 sc) shown d.1) _
      (dec_derives depth (under d.0 sc) shown d.1 has.1 (firm_under d.0 sc firm k.1.0)
      (low_under sc st d low k.0.0 k.1.1.0)
      (ready_under Any d.0 sc d.1 k.0.1 (ready_later Any sc st d.1 h k.0.0))) (λ r l.
      dec_sized sc (DecPhrase.Local hidden shown at) st at r (local_derived sc hidden shown at st d r k.1.1.1 l)))
  dec_derives depth sc (DecPhrase.Open longs at) st has firm low h =
      let dec : DecPhrase = DecPhrase.Open longs at in
      given_then (OpenDerived sc longs empty_env) (DecDerived sc dec st) (infer_open sc longs empty_env) _
      (open_derives sc longs empty_env) (λ made k. dec_sized sc dec st at (made, st)
      (stateless_derived sc dec st made (λ p. ElaboratesDec.rule_22 p.marks (put_scope p.stands sc) st.names longs at
      (put_env p.stands made) (k p.stands))))
  dec_derives depth sc (DecPhrase.Sequence decs at) st has firm low h =
      given_more (DecsDerived sc decs st) (DecDerived sc (DecPhrase.Sequence decs at) st) (infer_decs depth sc decs st)
      (sequence_derived sc decs at st) (decs_derive depth sc decs st has firm low h)
  dec_derives depth sc (DecPhrase.Structures binds at) st has firm low h = tt

  pub decs_derive : (depth : ℕ) (sc : Scope) (decs : DecPhrases) (st : Progress) → DecsHave BindsValues decs
      → FirmEnv sc.env → TypesBelow sc.home st.names sc.env
      → IsReady Any sc st → Given (DecsDerived sc decs st) (infer_decs depth sc decs st)
  decs_derive depth sc DecPhrases.EndOfDecs st has firm low h = record {
    solved = λ p q. q;
    leaves = λ p q. q;
    derives = λ p q. ElaboratesDecs.rule_23 p.marks (put_scope p.stands sc) st.names;
  }
  decs_derive depth sc (DecPhrases.Dec dec rest) st has firm low h =
      let Q : Env × Progress → Type 0 = DecsDerived sc (DecPhrases.Dec dec rest) st in
      given_then (DecKnown sc dec st) Q (infer_dec depth sc dec st) _
      (dec_with depth sc dec st firm low h (dec_derives depth sc dec st has.0 firm low h)) (λ d k.
      given_then (DecsDerived (under d.0 sc) rest d.1) Q (infer_decs depth (under d.0 sc) rest d.1) _
      (decs_derive depth (under d.0 sc) rest d.1 has.1 (firm_under d.0 sc firm k.1.0)
      (low_under sc st d low k.0.0 k.1.1.0)
      (ready_under Any d.0 sc d.1 k.0.1 (ready_later Any sc st d.1 h k.0.0))) (λ r l.
      decs_derived sc dec rest st d r k.1.1.1 l))
