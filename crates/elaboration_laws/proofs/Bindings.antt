-- The bindings of a `val` have derivations, step by step.
use Rattle.std.proofs.Common.{◌≡◌, ℕ, List, [], ◌∷◌, ◌++◌, map, length, drop, refl, sym, ap, ap₂, ◌∙◌, subst, Bool, true, ◌&&◌, not}
use Rattle.semantic_objects.specs.Environments.{Env, values}
use Rattle.unification.specs.Types.{Ty, Substitution, Marks, State, put}
use Rattle.unification.specs.Unification.{Solves}
use Rattle.bare_phrases.specs.Phrases.{PatPhrase, ExpPhrase, ExpFields, Rules}
use Rattle.static_semantics.specs.Inferring.{Progress, Scope, Bound, found_at, stands_for_con}
use Rattle.static_semantics.specs.Nonexpansive.{ends_in_ref, constructs, is_nonexpansive, are_nonexpansive}
use Rattle.static_semantics.specs.PatternInference.{pat_at, infer_pat}
use Rattle.static_semantics.specs.CoreInference.{Group, added, names_variable, is_variable, RecPats, infer_rec_pats, rec_bound, rec_groups}
use Rattle.static_semantics.specs.EnvironmentsPut.{put_env, put_rows, put_scope}
use Rattle.static_semantics.specs.RuleConditions.{are_distinct, groups_bound}
use Rattle.static_semantics.specs.Elaborates.{ElaboratesPat, ElaboratesExp, ElaboratesBinds, ElaboratesRecs}
use Rattle.static_semantics.specs.Holding.{Given, AllRows}
use Rattle.static_semantics.specs.Growing.{TyIn, IsReady}
use Rattle.static_semantics.proofs.Holding.{given_then}
use Rattle.static_semantics.proofs.Growing.{ready_later}
use Rattle.static_semantics.proofs.TypesGrow.{given_more}
use Rattle.inference_laws.specs.Alike.{FirmEnv}
use Rattle.inference_laws.specs.Promises.{Any}
use Rattle.phrase_laws.specs.Derived.{SolvesBefore, LeavesBefore, PatDerived, ExpDerived}
use Rattle.phrase_laws.proofs.Finding.{rows_after_put, con_mapped, con_put, value_found_put}
use Rattle.phrase_laws.proofs.Types.{given_check, is_not}
use Rattle.phrase_laws.proofs.Steps.{Joined}
use Rattle.phrase_laws.proofs.Patterns.{PatKnown, pat_known}
use Rattle.reopening_laws.proofs.Schemes.{put_groups}

-- ---- lists

after_one : {A : Type 0} (xs : List A) (x : A) (ys : List A) → (xs ++ x ∷ []) ++ ys ≡ xs ++ x ∷ ys
after_one [] x ys = refl
after_one (z ∷ xs) x ys = ap (λ w. z ∷ w) (after_one xs x ys)

pub after_both : {A : Type 0} (xs ys zs : List A) → (xs ++ ys) ++ zs ≡ xs ++ (ys ++ zs)
after_both [] ys zs = refl
after_both (x ∷ xs) ys zs = ap (λ w. x ∷ w) (after_both xs ys zs)

drop_after : {A : Type 0} (xs ys : List A) → drop (length xs) (xs ++ ys) ≡ ys
drop_after [] ys = refl
drop_after (x ∷ xs) ys = drop_after xs ys

added_own : (bound own all : Bound) → all ≡ bound ++ own → added bound all ≡ own
added_own bound own all h = ap (drop (length bound)) h ∙ drop_after bound own

-- ---- what is looked up with types put in

constructs_put : (s : Substitution) (env : Env) (exp : ExpPhrase) → constructs (put_env s env) exp ≡ constructs env exp
constructs_put s env (ExpPhrase.Int value at) = refl
constructs_put s env (ExpPhrase.Str value at) = refl
constructs_put s env (ExpPhrase.Char value at) = refl
constructs_put s env (ExpPhrase.Long long at) = ap (λ z. z && not (ends_in_ref long.parts))
    (ap stands_for_con (value_found_put s long.parts env) ∙ con_mapped s (found_at values long.parts env))
constructs_put s env (ExpPhrase.Record fields at) = refl
constructs_put s env (ExpPhrase.Let dec body at) = refl
constructs_put s env (ExpPhrase.App function argument at) = refl
constructs_put s env (ExpPhrase.Typed exp ty at) = refl
constructs_put s env (ExpPhrase.Handle exp rules at) = refl
constructs_put s env (ExpPhrase.Raise exp at) = refl
constructs_put s env (ExpPhrase.Fn rules at) = refl

mutual
  nonexpansive_put : (s : Substitution) (env : Env) (exp : ExpPhrase)
      → is_nonexpansive (put_env s env) exp ≡ is_nonexpansive env exp
  nonexpansive_put s env (ExpPhrase.Int value at) = refl
  nonexpansive_put s env (ExpPhrase.Str value at) = refl
  nonexpansive_put s env (ExpPhrase.Char value at) = refl
  nonexpansive_put s env (ExpPhrase.Long long at) = refl
  nonexpansive_put s env (ExpPhrase.Record fields at) = all_nonexpansive_put s env fields
  nonexpansive_put s env (ExpPhrase.Let dec body at) = refl
  nonexpansive_put s env (ExpPhrase.App function argument at) =
      ap₂ (λ a b. a && b) (constructs_put s env function) (nonexpansive_put s env argument)
  nonexpansive_put s env (ExpPhrase.Typed exp ty at) = nonexpansive_put s env exp
  nonexpansive_put s env (ExpPhrase.Handle exp rules at) = refl
  nonexpansive_put s env (ExpPhrase.Raise exp at) = refl
  nonexpansive_put s env (ExpPhrase.Fn rules at) = refl

  all_nonexpansive_put : (s : Substitution) (env : Env) (fields : ExpFields)
      → are_nonexpansive (put_env s env) fields ≡ are_nonexpansive env fields
  all_nonexpansive_put s env ExpFields.EndOfFields = refl
  all_nonexpansive_put s env (ExpFields.Field label exp rest) =
      ap₂ (λ a b. a && b) (nonexpansive_put s env exp) (all_nonexpansive_put s env rest)

names_variable_put : (s : Substitution) (env : Env) (parts : List (List ℕ))
    → names_variable (put_env s env) parts ≡ names_variable env parts
names_variable_put s env [] = refl
names_variable_put s env (name ∷ []) = ap not (con_put s name env)
names_variable_put s env (name ∷ next ∷ rest) = refl

variable_put : (s : Substitution) (env : Env) (pat : PatPhrase) → is_variable (put_env s env) pat ≡ is_variable env pat
variable_put s env (PatPhrase.Wild at) = refl
variable_put s env (PatPhrase.Int value at) = refl
variable_put s env (PatPhrase.Str value at) = refl
variable_put s env (PatPhrase.Char value at) = refl
variable_put s env (PatPhrase.Long long at) = names_variable_put s env long.parts
variable_put s env (PatPhrase.Record fields at) = refl
variable_put s env (PatPhrase.Con long arg at) = refl
variable_put s env (PatPhrase.Typed pat ty at) = variable_put s env pat
variable_put s env (PatPhrase.As name ty pat at) = refl

-- ---- plain bindings

pub record BindsDerived (sc : Scope) (rules : Rules) (bound : Bound) (groups : List Group) (st : Progress)
    (r : Bound × List Group × Progress) : Type 0 where
  pub more : List Group
  pub all : r.1 ≡ groups ++ more
  pub after : r.0 ≡ bound ++ groups_bound more
  pub distinct : are_distinct bound ≡ true → are_distinct r.0 ≡ true
  pub solved : SolvesBefore st r.2
  pub leaves : LeavesBefore st r.2
  pub derives : (p : State) → Solves p r.2.types
      → ElaboratesBinds p.marks (put_scope p.stands sc) st.names rules (put_groups p.stands more) r.2.names

nothing_after : {A : Type 0} (xs : List A) → xs ≡ xs ++ []
nothing_after [] = refl
nothing_after (x ∷ xs) = ap (λ z. x ∷ z) (nothing_after xs)

pub no_binds_derived : (sc : Scope) (bound : Bound) (groups : List Group) (st : Progress)
    → BindsDerived sc Rules.EndOfRules bound groups st (bound, groups, st)
no_binds_derived sc bound groups st = record {
  more = [];
  all = nothing_after groups;
  after = nothing_after bound;
  distinct = λ d. d;
  solved = λ p q. q;
  leaves = λ p q. q;
  derives = λ p q. ElaboratesBinds.no_binds p.marks (put_scope p.stands sc) st.names;
}

-- the expression of a binding, with the type of its pattern
joined_exp : (sc : Scope) (exp : ExpPhrase) (ty : Ty) (st : Progress) (e : Ty × Progress) (u : Progress) (n : ℕ)
    (p : State) → ExpDerived sc exp st e → Joined ty e.0 e.1 u → st.names ≡ n → Solves p u.types
    → ElaboratesExp p.marks (put_scope p.stands sc) n exp (put p.stands ty) u.names
joined_exp sc exp ty st e u n p i j same q =
    let sees : Scope = put_scope p.stands sc in
    subst (λ m. ElaboratesExp p.marks sees m exp (put p.stands ty) u.names) same
    (subst (λ m. ElaboratesExp p.marks sees st.names exp (put p.stands ty) m) (sym j.names)
    (subst (λ z. ElaboratesExp p.marks sees st.names exp z e.1.names) (sym (j.same p q)) (i.derives p (j.solved p q))))

pub bind_derived : (sc : Scope) (pat : PatPhrase) (exp : ExpPhrase) (rest : Rules) (bound : Bound)
    (groups : List Group) (st : Progress) (r : Ty × Bound × Progress) (e : Ty × Progress) (u : Progress)
    (v : Bound × List Group × Progress) → PatDerived sc pat bound st r → ExpDerived sc exp r.2 e
    → Joined r.0 e.0 e.1 u
    → BindsDerived sc rest r.1 (groups ++ (is_nonexpansive sc.env exp, added bound r.1) ∷ []) u v
    → BindsDerived sc (Rules.Rule pat exp rest) bound groups st v
bind_derived sc pat exp rest bound groups st r e u v h i j k =
    let flag : Bool = is_nonexpansive sc.env exp in record {
      more = (flag, h.own) ∷ k.more;
      all = k.all
          ∙ ap (λ z. (groups ++ (flag, z) ∷ []) ++ k.more) (added_own bound h.own r.1 h.binds.after)
          ∙ after_one groups (flag, h.own) k.more;
      after = k.after ∙ ap (λ z. z ++ groups_bound k.more) h.binds.after
          ∙ after_both bound h.own (groups_bound k.more);
      distinct = λ d. k.distinct (h.binds.distinct d);
      solved = λ p q. h.binds.solved p (i.solved p (j.solved p (k.solved p q)));
      leaves = λ p q. h.binds.leaves p (i.leaves p (j.leaves p (k.leaves p q)));
      derives = λ p q.
          let f : Substitution = p.stands in
          subst (λ z. ElaboratesBinds p.marks (put_scope f sc) st.names (Rules.Rule pat exp rest)
          ((z, put_rows f h.own) ∷ put_groups f k.more) v.2.names) (nonexpansive_put f sc.env exp)
          (ElaboratesBinds.rule_25 p.marks (put_scope f sc) st.names u.names v.2.names pat exp rest (put_rows f h.own)
          (put f r.0) (put_groups f k.more) (h.derives p (i.solved p (j.solved p (k.solved p q))))
          (joined_exp sc exp r.0 r.2 e u st.names p i j h.binds.names (k.solved p q)) (k.derives p q));
    }

-- ---- `rec` patterns

abbrev pub put_recs : Substitution → RecPats → RecPats
put_recs s rows = map (λ (row : Ty × Bound). (put s row.0, put_rows s row.1)) rows

-- each pattern has a derivation, and is a variable
abbrev pub RecPatsHold : Marks → Scope → Rules → RecPats → Type 0
RecPatsHold q sc Rules.EndOfRules [] = Unit {0}
RecPatsHold q sc Rules.EndOfRules (row ∷ rows) = ⊥
RecPatsHold q sc (Rules.Rule pat exp rest) [] = ⊥
RecPatsHold q sc (Rules.Rule pat exp rest) (row ∷ rows) =
    ElaboratesPat q sc pat row.1 row.0 × (is_variable sc.env pat ≡ true) × RecPatsHold q sc rest rows

pub record RecPatsDerived (sc : Scope) (rules : Rules) (made : RecPats) (bound : Bound) (st : Progress)
    (r : RecPats × Progress) : Type 0 where
  pub more : RecPats
  pub all : r.0 ≡ made ++ more
  pub distinct : are_distinct bound ≡ true → are_distinct (bound ++ rec_bound more) ≡ true
  pub names : r.1.names ≡ st.names
  pub solved : SolvesBefore st r.1
  pub leaves : LeavesBefore st r.1
  pub hold : (p : State) → Solves p r.1.types
      → RecPatsHold p.marks (put_scope p.stands sc) rules (put_recs p.stands more)

rec_pat_derived : (sc : Scope) (pat : PatPhrase) (exp : ExpPhrase) (rest : Rules) (made : RecPats) (bound : Bound)
    (st : Progress) (r : Ty × Bound × Progress) (v : RecPats × Progress) → PatDerived sc pat bound st r
    → is_variable sc.env pat ≡ true → RecPatsDerived sc rest (made ++ (r.0, added bound r.1) ∷ []) r.1 r.2 v
    → RecPatsDerived sc (Rules.Rule pat exp rest) made bound st v
rec_pat_derived sc pat exp rest made bound st r v h c k = record {
  more = (r.0, h.own) ∷ k.more;
  all = k.all
      ∙ ap (λ z. (made ++ (r.0, z) ∷ []) ++ k.more) (added_own bound h.own r.1 h.binds.after)
      ∙ after_one made (r.0, h.own) k.more;
  distinct = λ d. subst (λ z. are_distinct z ≡ true)
      (ap (λ z. z ++ rec_bound k.more) h.binds.after ∙ after_both bound h.own (rec_bound k.more))
      (k.distinct (h.binds.distinct d));
  names = k.names ∙ h.binds.names;
  solved = λ p q. h.binds.solved p (k.solved p q);
  leaves = λ p q. h.binds.leaves p (k.leaves p q);
  hold = λ p q. (h.derives p (k.solved p q), variable_put p.stands sc.env pat ∙ c, k.hold p q);
}

pub rec_pats_derive : (depth : ℕ) (sc : Scope) (rules : Rules) (made : RecPats) (bound : Bound) (st : Progress)
    → FirmEnv sc.env → IsReady Any sc st → AllRows (TyIn Any st.types) bound
    → Given (RecPatsDerived sc rules made bound st) (infer_rec_pats depth sc rules made bound st)
rec_pats_derive depth sc Rules.EndOfRules made bound st firm h k = record {
  more = [];
  all = nothing_after made;
  distinct = λ d. subst (λ z. are_distinct z ≡ true) (nothing_after bound) d;
  names = refl;
  solved = λ p q. q;
  leaves = λ p q. q;
  hold = λ p q. tt;
}
rec_pats_derive depth sc (Rules.Rule pat exp rest) made bound st firm h k =
    let Q : RecPats × Progress → Type 0 = RecPatsDerived sc (Rules.Rule pat exp rest) made bound st in
    given_then (PatKnown sc pat bound st) Q (infer_pat depth sc pat bound st) _
    (pat_known depth sc pat bound st firm h k) (λ r i.
    given_check Q (not (is_variable sc.env pat)) 34 sc (pat_at pat) _ (λ e.
    given_more (RecPatsDerived sc rest (made ++ (r.0, added bound r.1) ∷ []) r.1 r.2) Q
    (infer_rec_pats depth sc rest (made ++ (r.0, added bound r.1) ∷ []) r.1 r.2)
    (λ v l. rec_pat_derived sc pat exp rest made bound st r v i.1 (is_not (is_variable sc.env pat) e) l)
    (rec_pats_derive depth sc rest (made ++ (r.0, added bound r.1) ∷ []) r.1 r.2 firm (ready_later Any sc st r.2 h i.0.0)
    i.0.2)))

-- ---- the right sides of `rec` bindings

pub record RecExpsDerived (sc inner : Scope) (rules : Rules) (rows : RecPats) (st u : Progress) : Type 0 where
  pub solved : SolvesBefore st u
  pub leaves : LeavesBefore st u
  pub derives : (p : State) → Solves p u.types
      → RecPatsHold p.marks (put_scope p.stands sc) rules (put_recs p.stands rows)
      → ElaboratesRecs p.marks (put_scope p.stands sc) (put_scope p.stands inner) st.names rules
      (put_recs p.stands rows) u.names

no_recs_under : (q : Marks) (sc inner : Scope) (n : ℕ) (rows : RecPats) → RecPatsHold q sc Rules.EndOfRules rows
    → ElaboratesRecs q sc inner n Rules.EndOfRules rows n
no_recs_under q sc inner n [] h = ElaboratesRecs.no_recs q sc inner n
no_recs_under q sc inner n (row ∷ rows) h = absurd h

pub no_rec_exps_derived : (sc inner : Scope) (rows : RecPats) (st : Progress)
    → RecExpsDerived sc inner Rules.EndOfRules rows st st
no_rec_exps_derived sc inner rows st = record {
  solved = λ p q. q;
  leaves = λ p q. q;
  derives = λ p q h. no_recs_under p.marks (put_scope p.stands sc) (put_scope p.stands inner) st.names
      (put_recs p.stands rows) h;
}

pub rec_exp_derived : (sc inner : Scope) (pat : PatPhrase) (exp : ExpPhrase) (rest : Rules) (row : Ty × Bound)
    (rows : RecPats) (st : Progress) (e : Ty × Progress) (u v : Progress) → ExpDerived inner exp st e
    → Joined row.0 e.0 e.1 u → RecExpsDerived sc inner rest rows u v
    → RecExpsDerived sc inner (Rules.Rule pat exp rest) (row ∷ rows) st v
rec_exp_derived sc inner pat exp rest row rows st e u v i j k = record {
  solved = λ p q. i.solved p (j.solved p (k.solved p q));
  leaves = λ p q. i.leaves p (j.leaves p (k.leaves p q));
  derives = λ p q h.
      let f : Substitution = p.stands in
      ElaboratesRecs.rule_26 p.marks (put_scope f sc) (put_scope f inner) st.names u.names v.names pat exp rest
      (put_rows f row.1) (put f row.0) (put_recs f rows) h.0 h.1
      (joined_exp inner exp row.0 st e u st.names p i j refl (k.solved p q)) (k.derives p q h.2);
}

-- ---- the variables of `rec` bindings

pub rec_bound_put : (s : Substitution) (rows : RecPats) → rec_bound (put_recs s rows) ≡ put_rows s (rec_bound rows)
rec_bound_put s [] = refl
rec_bound_put s (row ∷ rows) = ap (λ z. put_rows s row.1 ++ z) (rec_bound_put s rows)
    ∙ sym (rows_after_put s row.1 (rec_bound rows))

pub rec_groups_put : (s f : Substitution) (env : Env) (rules : Rules) (rows : RecPats)
    → put_groups f (rec_groups env rules rows) ≡ rec_groups (put_env s env) rules (put_recs f rows)
rec_groups_put s f env Rules.EndOfRules rows = refl
rec_groups_put s f env (Rules.Rule pat exp rest) [] = refl
rec_groups_put s f env (Rules.Rule pat exp rest) (row ∷ rows) =
    ap₂ (λ (z : Bool) (more : List Group). (z, put_rows f row.1) ∷ more) (sym (nonexpansive_put s env exp))
    (rec_groups_put s f env rest rows)

pub rec_groups_bound : (q : Marks) (sc : Scope) (f : Substitution) (env : Env) (rules : Rules) (rows : RecPats)
    → RecPatsHold q sc rules (put_recs f rows) → groups_bound (rec_groups env rules rows) ≡ rec_bound rows
rec_groups_bound q sc f env Rules.EndOfRules [] h = refl
rec_groups_bound q sc f env Rules.EndOfRules (row ∷ rows) h = absurd h
rec_groups_bound q sc f env (Rules.Rule pat exp rest) [] h = absurd h
rec_groups_bound q sc f env (Rules.Rule pat exp rest) (row ∷ rows) h =
    ap (λ z. row.1 ++ z) (rec_groups_bound q sc f env rest rows h.2)
