-- Steps of expressions and matches have derivations.
use Rattle.std.proofs.Common.{◌≡◌, ℕ, [], refl, sym, ap, ◌∙◌, subst, None, true, false}
use Rattle.sml_trees.specs.declared.name.At.{At}
use Rattle.sml_trees.specs.declared.name.Name.{Name}
use Rattle.sml_trees.specs.declared.name.LongName.{LongName}
use Rattle.semantic_objects.specs.Tables.{Table, entry, with_entry}
use Rattle.semantic_objects.specs.Environments.{Env, values}
use Rattle.unification.specs.Types.{Ty, Substitution, State, put}
use Rattle.unification.specs.Unification.{Solves}
use Rattle.bare_phrases.specs.Phrases.{TyPhrase, PatPhrase, ExpPhrase, ExpFields, Rules, DecPhrase}
use Rattle.static_semantics.specs.BasicTypes.{exn_ty, arrow_ty, record_ty}
use Rattle.static_semantics.specs.Inferring.{Progress, Scope, under, gives, known, unify_at, found_at, new_variable, new_instance, Bound, under_bound, is_too_large, sized_exp}
use Rattle.static_semantics.specs.CoreInference.{known_exp, applied, joined, handled, raised, holds_made, within_let}
use Rattle.static_semantics.specs.EnvironmentsPut.{put_value, put_env, put_rows, put_scope}
use Rattle.static_semantics.specs.RuleConditions.{are_distinct}
use Rattle.static_semantics.specs.Elaborates.{ElaboratesTy, ElaboratesPat, ElaboratesExp, ElaboratesExpFields, ElaboratesMatch}
use Rattle.static_semantics.specs.Holding.{Given}
use Rattle.static_semantics.specs.Growing.{TyIn, Grows, IsReady}
use Rattle.static_semantics.proofs.Holding.{given_then, given_where}
use Rattle.static_semantics.proofs.Growing.{grows_variable, ty_constant}
use Rattle.inference_laws.specs.Alike.{FirmEnv}
use Rattle.inference_laws.specs.Promises.{Any}
use Rattle.phrase_laws.specs.Derived.{SolvesBefore, LeavesBefore, PatDerived, ExpDerived, ExpFieldsDerived, RulesDerived, MatchDerived, DecDerived}
use Rattle.phrase_laws.proofs.Finding.{no_entry_put, with_entry_put, under_put, under_bound_put, record_put, distinct_put}
use Rattle.phrase_laws.proofs.Types.{TyDerived}
use Rattle.phrase_laws.proofs.Steps.{Joined, unify_joins, unify_known, solved_variable, leaves_variable, solved_instance, leaves_instance, instance_under}
use Rattle.phrase_laws.proofs.Patterns.{ValueFound, value_known}

pub exp_sized : (sc : Scope) (exp : ExpPhrase) (st : Progress) (at : At) (r : Ty × Progress) → ExpDerived sc exp st r
    → Given (ExpDerived sc exp st) (sized_exp sc at r)
exp_sized sc exp st at r h =
    given_where (ExpDerived sc exp st) (is_too_large (put r.1.types.stands r.0)) 38 sc at (λ u. gives r) h

pub constant_derived : (sc : Scope) (exp : ExpPhrase) (ty : Ty) (st : Progress)
    → ((p : State) → ElaboratesExp p.marks (put_scope p.stands sc) st.names exp (put p.stands ty) st.names)
    → ExpDerived sc exp st (ty, st)
constant_derived sc exp ty st h = record { solved = λ p q. q; leaves = λ p q. q; derives = λ p q. h p }

-- a name
pub long_derived : (sc : Scope) (long : LongName) (at : At) (st : Progress) → FirmEnv sc.env → IsReady Any sc st
    → Given (ExpDerived sc (ExpPhrase.Long long at) st) (known_exp sc long st)
long_derived sc long at st firm h =
    given_then (ValueFound sc long) (ExpDerived sc (ExpPhrase.Long long at) st)
    (known sc long (found_at values long.parts sc.env)) _ (value_known sc long firm) (λ value f. record {
      solved = solved_instance value.scheme st h.fit;
      leaves = leaves_instance value.scheme st h.fit;
      derives = λ p q. ElaboratesExp.rule_2 p.marks (put_scope p.stands sc) st.names long at (put_value p.stands value)
          (put p.stands (new_instance value.scheme st).0) (f.found p.stands) (instance_under value.scheme st p q);
    })

-- a record
pub record_derived : (sc : Scope) (fields : ExpFields) (at : At) (st : Progress) (r : Table Ty × Progress)
    → ExpFieldsDerived sc fields [] st r → ExpDerived sc (ExpPhrase.Record fields at) st (record_ty r.0, r.1)
record_derived sc fields at st r h = record {
  solved = h.solved;
  leaves = h.leaves;
  derives = λ p q. subst
      (λ z. ElaboratesExp p.marks (put_scope p.stands sc) st.names (ExpPhrase.Record fields at) z r.1.names)
      (record_put p.stands r.0)
      (ElaboratesExp.rule_3 p.marks (put_scope p.stands sc) st.names r.1.names fields at (put_rows p.stands r.0)
      (h.derives p q));
}

pub no_fields_derived : (sc : Scope) (made : Table Ty) (st : Progress)
    → ExpFieldsDerived sc ExpFields.EndOfFields made st (made, st)
no_fields_derived sc made st = record {
  solved = λ p q. q;
  leaves = λ p q. q;
  derives = λ p q. ElaboratesExpFields.no_exp_fields p.marks (put_scope p.stands sc) st.names (put_rows p.stands made);
}

pub field_derived : (sc : Scope) (label : Name) (exp : ExpPhrase) (rest : ExpFields) (made : Table Ty) (st : Progress)
    (r : Ty × Progress) (v : Table Ty × Progress) → entry label.text made ≡ None → ExpDerived sc exp st r
    → ExpFieldsDerived sc rest (with_entry label.text r.0 made) r.1 v
    → ExpFieldsDerived sc (ExpFields.Field label exp rest) made st v
field_derived sc label exp rest made st r v e h k = record {
  solved = λ p q. h.solved p (k.solved p q);
  leaves = λ p q. h.leaves p (k.leaves p q);
  derives = λ p q.
      let f : Substitution = p.stands in
      ElaboratesExpFields.rule_6 p.marks (put_scope f sc) st.names r.1.names v.1.names label exp rest
      (put_rows f made) (put_rows f v.0) (put f r.0) (no_entry_put (put f) label.text made e)
      (h.derives p (k.solved p q))
      (subst (λ z. ElaboratesExpFields p.marks (put_scope f sc) r.1.names rest z (put_rows f v.0) v.1.names)
      (sym (with_entry_put (put f) label.text r.0 made)) (k.derives p q));
}

-- `let`
pub let_derived : (sc : Scope) (dec : DecPhrase) (body : ExpPhrase) (at : At) (st : Progress) (d : Env × Progress)
    (r : Ty × Progress) → DecDerived sc dec st d → ExpDerived (under d.0 sc) body d.1 r
    → ExpDerived sc (ExpPhrase.Let dec body at) st r
let_derived sc dec body at st d r h k = record {
  solved = λ p q. h.solved p (k.solved p q);
  leaves = λ p q. h.leaves p (k.leaves p q);
  derives = λ p q. ElaboratesExp.rule_4 p.marks (put_scope p.stands sc) st.names d.1.names r.1.names dec body at
      (put_env p.stands d.0) (put p.stands r.0) (h.derives p (k.solved p q))
      (subst (λ z. ElaboratesExp p.marks z d.1.names body (put p.stands r.0) r.1.names)
      (sym (under_put p.stands d.0 sc)) (k.derives p q));
}

pub within_derived : (sc : Scope) (exp : ExpPhrase) (st : Progress) (at : At) (from to : ℕ) (r : Ty × Progress)
    → ExpDerived sc exp st r → Given (ExpDerived sc exp st) (within_let sc at from to r)
within_derived sc exp st at from to r h =
    given_where (ExpDerived sc exp st) (holds_made sc.home from to (put r.1.types.stands r.0)) 41 sc at (λ u. gives r)
    h

-- an application
pub app_derived : (depth : ℕ) (sc : Scope) (function argument : ExpPhrase) (at : At) (st : Progress)
    (f a : Ty × Progress) → IsReady Any sc a.1 → ExpDerived sc function st f → ExpDerived sc argument f.1 a
    → Given (ExpDerived sc (ExpPhrase.App function argument at) st) (applied depth sc at f.0 a.0 a.1)
app_derived depth sc function argument at st f a ready h k =
    let u : Progress = (new_variable a.1).1 in
    let new : Ty = (new_variable a.1).0 in
    given_then (Joined f.0 (arrow_ty a.0 new) u) (ExpDerived sc (ExpPhrase.App function argument at) st)
    (unify_at depth sc at f.0 (arrow_ty a.0 new) u) _
    (unify_joins depth sc at f.0 (arrow_ty a.0 new) u (grows_variable Any false false a.1 ready.fit ready.new).fit)
    (λ v j.
    let back : SolvesBefore a.1 v = λ p q. solved_variable a.1 ready.fit p (j.solved p q) in
    let back_leaves : LeavesBefore a.1 v = λ p q. leaves_variable a.1 ready.fit p (j.leaves p q) in
    record {
      solved = λ p q. h.solved p (k.solved p (back p q));
      leaves = λ p q. h.leaves p (k.leaves p (back_leaves p q));
      derives = λ p q. subst
          (ElaboratesExp p.marks (put_scope p.stands sc) st.names (ExpPhrase.App function argument at)
          (put p.stands new)) (sym j.names)
          (ElaboratesExp.rule_8 p.marks (put_scope p.stands sc) st.names f.1.names a.1.names function argument at
          (put p.stands a.0) (put p.stands new)
          (subst (λ z. ElaboratesExp p.marks (put_scope p.stands sc) st.names function z f.1.names) (j.same p q)
          (h.derives p (k.solved p (back p q))))
          (k.derives p (back p q)));
    })

-- `e : ty`
pub typed_derived : (depth : ℕ) (sc : Scope) (exp : ExpPhrase) (ty : TyPhrase) (at : At) (st : Progress)
    (e : Ty × Progress) (t : Ty) → IsReady Any sc e.1 → ExpDerived sc exp st e
    → ((s : Substitution) → TyDerived s sc ty t)
    → Given (ExpDerived sc (ExpPhrase.Typed exp ty at) st) (joined depth sc at e.0 t e.1)
typed_derived depth sc exp ty at st e t ready h d =
    given_then (Joined e.0 t e.1) (ExpDerived sc (ExpPhrase.Typed exp ty at) st) (unify_at depth sc at e.0 t e.1) _
    (unify_joins depth sc at e.0 t e.1 ready.fit) (λ v j. record {
      solved = λ p q. h.solved p (j.solved p q);
      leaves = λ p q. h.leaves p (j.leaves p q);
      derives = λ p q. subst
          (ElaboratesExp p.marks (put_scope p.stands sc) st.names (ExpPhrase.Typed exp ty at) (put p.stands e.0))
          (sym j.names)
          (ElaboratesExp.rule_9 p.marks (put_scope p.stands sc) st.names e.1.names exp ty at (put p.stands e.0)
          (h.derives p (j.solved p q))
          (subst (ElaboratesTy (put_scope p.stands sc) ty) (sym (j.same p q)) (d p.stands)));
    })

-- the two sides of arrows that are one
left_side : (a b c d : Ty) → arrow_ty a b ≡ arrow_ty c d → a ≡ c
left_side a b c d h = (cc)

right_side : (a b c d : Ty) → arrow_ty a b ≡ arrow_ty c d → b ≡ d
right_side a b c d h = (cc)

-- `handle`
pub handle_derived : (depth : ℕ) (sc : Scope) (exp : ExpPhrase) (rules : Rules) (at : At) (st : Progress)
    (e m : Ty × Progress) → IsReady Any sc m.1 → ExpDerived sc exp st e → MatchDerived sc rules e.1 m
    → Given (ExpDerived sc (ExpPhrase.Handle exp rules at) st) (handled depth sc at e.0 m.0 m.1)
handle_derived depth sc exp rules at st e m ready h k =
    given_then (Joined m.0 (arrow_ty exn_ty e.0) m.1) (ExpDerived sc (ExpPhrase.Handle exp rules at) st)
    (unify_at depth sc at m.0 (arrow_ty exn_ty e.0) m.1) _
    (unify_joins depth sc at m.0 (arrow_ty exn_ty e.0) m.1 ready.fit) (λ v j. record {
      solved = λ p q. h.solved p (k.each.solved p (j.solved p q));
      leaves = λ p q. h.leaves p (k.each.leaves p (j.leaves p q));
      derives = λ p q.
          let sides : arrow_ty (put p.stands k.from) (put p.stands k.to) ≡ arrow_ty exn_ty (put p.stands e.0) =
          sym (ap (put p.stands) k.arrow) ∙ j.same p q in
          subst
          (ElaboratesExp p.marks (put_scope p.stands sc) st.names (ExpPhrase.Handle exp rules at) (put p.stands e.0))
          (sym j.names)
          (ElaboratesExp.rule_10 p.marks (put_scope p.stands sc) st.names e.1.names m.1.names exp rules at
          (put p.stands e.0) (h.derives p (k.each.solved p (j.solved p q)))
          (subst (λ z. ElaboratesMatch p.marks (put_scope p.stands sc) e.1.names rules z (put p.stands e.0) m.1.names)
          (left_side (put p.stands k.from) (put p.stands k.to) exn_ty (put p.stands e.0) sides)
          (subst (λ z. ElaboratesMatch p.marks (put_scope p.stands sc) e.1.names rules (put p.stands k.from) z
          m.1.names) (right_side (put p.stands k.from) (put p.stands k.to) exn_ty (put p.stands e.0) sides)
          (k.each.derives p (j.solved p q)))));
    })

-- `raise`
pub raise_derived : (depth : ℕ) (sc : Scope) (exp : ExpPhrase) (at : At) (st : Progress) (e : Ty × Progress)
    → IsReady Any sc e.1 → TyIn Any e.1.types e.0 → ExpDerived sc exp st e
    → Given (ExpDerived sc (ExpPhrase.Raise exp at) st) (raised depth sc at e.0 e.1)
raise_derived depth sc exp at st e ready t h =
    given_then (λ u. Grows Any e.1 u × Joined e.0 exn_ty e.1 u) (ExpDerived sc (ExpPhrase.Raise exp at) st)
    (unify_at depth sc at e.0 exn_ty e.1) _
    (unify_known depth sc at e.0 exn_ty e.1 ready.fit t (ty_constant Any e.1.types _)) (λ v j.
    let back : SolvesBefore e.1 (new_variable v).1 = λ p q. j.1.solved p (solved_variable v j.0.fit p q) in
    let back_leaves : LeavesBefore e.1 (new_variable v).1 = λ p q. j.1.leaves p (leaves_variable v j.0.fit p q) in
    record {
      solved = λ p q. h.solved p (back p q);
      leaves = λ p q. h.leaves p (back_leaves p q);
      derives = λ p q. subst
          (ElaboratesExp p.marks (put_scope p.stands sc) st.names (ExpPhrase.Raise exp at)
          (put p.stands (new_variable v).0)) (sym j.1.names)
          (ElaboratesExp.rule_11 p.marks (put_scope p.stands sc) st.names e.1.names exp at
          (put p.stands (new_variable v).0)
          (subst (λ z. ElaboratesExp p.marks (put_scope p.stands sc) st.names exp z e.1.names)
          (j.1.same p (solved_variable v j.0.fit p q)) (h.derives p (back p q))));
    })

-- `fn`
pub fn_derived : (sc : Scope) (rules : Rules) (at : At) (st : Progress) (r : Ty × Progress)
    → MatchDerived sc rules st r → ExpDerived sc (ExpPhrase.Fn rules at) st r
fn_derived sc rules at st r h = record {
  solved = h.each.solved;
  leaves = h.each.leaves;
  derives = λ p q. subst
      (λ z. ElaboratesExp p.marks (put_scope p.stands sc) st.names (ExpPhrase.Fn rules at) (put p.stands z) r.1.names)
      (sym h.arrow)
      (ElaboratesExp.rule_12 p.marks (put_scope p.stands sc) st.names r.1.names rules at (put p.stands h.from)
      (put p.stands h.to) (h.each.derives p q));
}

-- ---- matches

pub no_rules_derived : (sc : Scope) (from to : Ty) (st : Progress) → RulesDerived sc from to Rules.EndOfRules st st
no_rules_derived sc from to st = record {
  solved = λ p q. q;
  leaves = λ p q. q;
  derives = λ p q. ElaboratesMatch.no_rules p.marks (put_scope p.stands sc) st.names (put p.stands from)
      (put p.stands to);
}

pub no_match_derived : (sc : Scope) (st : Progress) → IsReady Any sc st
    → MatchDerived sc Rules.EndOfRules st (
      arrow_ty (new_variable st).0 (new_variable (new_variable st).1).0,
      (new_variable (new_variable st).1).1,
    )
no_match_derived sc st h =
    let first : Progress = (new_variable st).1 in
    let g : Grows Any st first = grows_variable Any false false st h.fit h.new in
    record {
      from = (new_variable st).0;
      to = (new_variable first).0;
      arrow = refl;
      each = record {
        solved = λ p q. solved_variable st h.fit p (solved_variable first g.fit p q);
        leaves = λ p q. leaves_variable st h.fit p (leaves_variable first g.fit p q);
        derives = λ p q. ElaboratesMatch.no_rules p.marks (put_scope p.stands sc) st.names
            (put p.stands (new_variable st).0) (put p.stands (new_variable first).0);
      };
    }

-- a pattern alone binds what differs
pat_alone : (sc : Scope) (pat : PatPhrase) (st : Progress) (r : Ty × Bound × Progress) → PatDerived sc pat [] st r
    → (p : State) → Solves p r.2.types
    → ElaboratesPat p.marks (put_scope p.stands sc) pat (put_rows p.stands r.1) (put p.stands r.0)
pat_alone sc pat st r h p q =
    subst (λ z. ElaboratesPat p.marks (put_scope p.stands sc) pat (put_rows p.stands z) (put p.stands r.0))
    (sym h.binds.after) (h.derives p q)

-- a rule under a choice, before further ones
rule_under : (p : State) (sc : Scope) (n k m : ℕ) (pat : PatPhrase) (exp : ExpPhrase) (rest : Rules) (bound : Bound)
    (from to : Ty) → ElaboratesPat p.marks (put_scope p.stands sc) pat (put_rows p.stands bound) from
    → are_distinct bound ≡ true
    → ElaboratesExp p.marks (put_scope p.stands (under_bound bound sc)) n exp to k
    → ElaboratesMatch p.marks (put_scope p.stands sc) k rest from to m
    → ElaboratesMatch p.marks (put_scope p.stands sc) n (Rules.Rule pat exp rest) from to m
rule_under p sc n k m pat exp rest bound from to a b c d =
    ElaboratesMatch.rule_13_14 p.marks (put_scope p.stands sc) n k m pat exp rest (put_rows p.stands bound) from to a
    (distinct_put p.stands bound ∙ b)
    (subst (λ z. ElaboratesExp p.marks z n exp to k) (sym (under_bound_put p.stands bound sc)) c) d

pub match_derived : (sc : Scope) (pat : PatPhrase) (exp : ExpPhrase) (rest : Rules) (st : Progress)
    (r : Ty × Bound × Progress) (e : Ty × Progress) (u : Progress) → PatDerived sc pat [] st r
    → ExpDerived (under_bound r.1 sc) exp r.2 e → RulesDerived sc r.0 e.0 rest e.1 u
    → MatchDerived sc (Rules.Rule pat exp rest) st (arrow_ty r.0 e.0, u)
match_derived sc pat exp rest st r e u h k l = record {
  from = r.0;
  to = e.0;
  arrow = refl;
  each = record {
    solved = λ p q. h.binds.solved p (k.solved p (l.solved p q));
    leaves = λ p q. h.binds.leaves p (k.leaves p (l.leaves p q));
    derives = λ p q. rule_under p sc st.names e.1.names u.names pat exp rest r.1 (put p.stands r.0) (put p.stands e.0)
        (pat_alone sc pat st r h p (k.solved p (l.solved p q))) (h.binds.distinct refl)
        (subst (λ n. ElaboratesExp p.marks (put_scope p.stands (under_bound r.1 sc)) n exp (put p.stands e.0) e.1.names)
        h.binds.names (k.derives p (l.solved p q)))
        (l.derives p q);
  };
}

pub rule_derived : (sc : Scope) (from to : Ty) (pat : PatPhrase) (exp : ExpPhrase) (rest : Rules) (st : Progress)
    (r : Ty × Bound × Progress) (s : Progress) (e : Ty × Progress) (u v : Progress) → PatDerived sc pat [] st r
    → Joined r.0 from r.2 s → ExpDerived (under_bound r.1 sc) exp s e → Joined e.0 to e.1 u
    → RulesDerived sc from to rest u v → RulesDerived sc from to (Rules.Rule pat exp rest) st v
rule_derived sc from to pat exp rest st r s e u v h i k j l = record {
  solved = λ p q. h.binds.solved p (i.solved p (k.solved p (j.solved p (l.solved p q))));
  leaves = λ p q. h.binds.leaves p (i.leaves p (k.leaves p (j.leaves p (l.leaves p q))));
  derives = λ p q.
      let at_u : Solves p u.types = l.solved p q in
      let at_s : Solves p s.types = k.solved p (j.solved p at_u) in
      rule_under p sc st.names u.names v.names pat exp rest r.1 (put p.stands from) (put p.stands to)
      (subst (ElaboratesPat p.marks (put_scope p.stands sc) pat (put_rows p.stands r.1)) (i.same p at_s)
      (pat_alone sc pat st r h p (i.solved p at_s)))
      (h.binds.distinct refl)
      (subst (λ n. ElaboratesExp p.marks (put_scope p.stands (under_bound r.1 sc)) n exp (put p.stands to) u.names)
      (i.names ∙ h.binds.names)
      (subst (λ n. ElaboratesExp p.marks (put_scope p.stands (under_bound r.1 sc)) s.names exp (put p.stands to) n)
      (sym j.names)
      (subst (λ z. ElaboratesExp p.marks (put_scope p.stands (under_bound r.1 sc)) s.names exp z e.1.names)
      (j.same p at_u) (k.derives p (j.solved p at_u)))))
      (l.derives p q);
}
