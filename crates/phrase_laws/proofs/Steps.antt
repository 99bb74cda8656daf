-- Steps of inference under a choice that solves the state after them: unification, new variables, instances.
use Rattle.std.proofs.Common.{◌≡◌, ℕ, zero, suc, ◌+◌, ◌<◌, List, [], ◌∷◌, refl, sym, ap, ◌∙◌, subst, arith, Option, Some, None, Bool, true, false, cond}
use Rattle.std.proofs.lemmas.Bool.{eq-eqb, eqb-true}
use Rattle.std.specs.Prelude.{Result, Ok, Err, eqb}
use Rattle.std.specs.Option.{option_map}
use Rattle.sml_trees.specs.declared.name.At.{At}
use Rattle.semantic_objects.specs.Trees.{TypeScheme}
use Rattle.unification.specs.Types.{Ty, Substitution, Marks, State, put}
use Rattle.unification.specs.Unification.{Fault, unify_in, Solves, IsSettled, IsMostGeneral, MakesEqual, LeavesRigid}
use Rattle.unification.specs.Instances.{mark_of, with_variable, with_variables, IsInstance}
use Rattle.unification.specs.Fitting.{IsFit}
use Rattle.unification.proofs.Walking.{either_way}
use Rattle.unification.proofs.General.{most_general}
use Rattle.unification.proofs.Filling.{put_fill, fill_put}
use Rattle.unification.proofs.Fitting.{fit_variable, solves_before, leaves_before}
use Rattle.static_semantics.specs.Inferring.{Progress, Scope, Answer, unified, unify_at, new_variable, new_instance}
use Rattle.static_semantics.specs.EnvironmentsPut.{put_scheme}
use Rattle.static_semantics.specs.Holding.{Given, IfSome}
use Rattle.static_semantics.specs.Growing.{TyIn, Grows, IsReady}
use Rattle.static_semantics.specs.TypeInference.{infer_ty}
use Rattle.bare_phrases.specs.Phrases.{TyPhrase}
use Rattle.static_semantics.proofs.Growing.{unify_grows}
use Rattle.static_semantics.proofs.TypesGrow.{ty_grows}
use Rattle.inference_laws.specs.Promises.{Any}
use Rattle.inference_laws.proofs.Making.{given_both}
use Rattle.phrase_laws.proofs.Types.{TyDerived, ty_derives}
use Rattle.phrase_laws.specs.Derived.{SolvesBefore, LeavesBefore}

-- ---- what holds whatever is put in

pub given_each : {A : Type 0} (R : Substitution → A → Type 0) (m : Answer A) → ((s : Substitution) → Given (R s) m)
    → Given (λ x. (s : Substitution) → R s x) m
given_each R None h = tt
given_each R (Some (Err d)) h = tt
given_each R (Some (Ok x)) h = λ s. h s

pub found_each : {A : Type 0} (f : Substitution → A → A) (o : Option A) (p : Substitution → Option A)
    → ((s : Substitution) → p s ≡ option_map (f s) o) → IfSome (λ x. (s : Substitution) → p s ≡ Some (f s x)) o
found_each f None p h = tt
found_each f (Some x) p h = h

-- ---- unification

-- two types are one under each choice that solves the state afterwards
pub record Joined (a b : Ty) (st u : Progress) : Type 0 where
  pub solved : SolvesBefore st u
  pub leaves : LeavesBefore st u
  pub same : (p : State) → Solves p u.types → put p.stands a ≡ put p.stands b
  pub names : u.names ≡ st.names

unified_joins : (depth : ℕ) (sc : Scope) (at : At) (a b : Ty) (st : Progress) (o : Option (Result State Fault))
    → IsSettled st.types → unify_in depth a b st.types ≡ o → Given (Joined a b st) (unified sc at st o)
unified_joins depth sc at a b st None h e = tt
unified_joins depth sc at a b st (Some (Err fault)) h e = tt
unified_joins depth sc at a b st (Some (Ok s)) h e =
    let m : IsMostGeneral st.types s (MakesEqual a b) = most_general depth a b st.types (Ok s) h e in
    record {
      solved = λ p q. (m.sound p q).0;
      leaves = λ p q. record {
        alone = λ n e. q.alone n (ap (λ (z : Marks). z n) m.rigid ∙ e);
        unmarked = λ n e i. m.unmarked n e (q.unmarked n (ap (λ (z : Marks). z n) m.rigid ∙ e) i);
      };
      same = λ p q. (m.sound p q).1;
      names = refl;
    }

pub unify_joins : (depth : ℕ) (sc : Scope) (at : At) (a b : Ty) (st : Progress) → IsFit st.types
    → Given (Joined a b st) (unify_at depth sc at a b st)
unify_joins depth sc at a b st h = unified_joins depth sc at a b st (unify_in depth a b st.types) h.settled refl

-- ---- new variables

pub solved_variable : (st : Progress) → IsFit st.types → SolvesBefore st (new_variable st).1
solved_variable st h p q = solves_before false false p st.types h q

solved_variables : (marks : List Bool) (s p : State) → IsFit s → Solves p (with_variables false marks s) → Solves p s
solved_variables [] s p h q = q
solved_variables (mark ∷ marks) s p h q = solves_before false mark p s h
    (solved_variables marks (with_variable false mark s) p (fit_variable false mark s h) q)

pub solved_instance : (σ : TypeScheme) (st : Progress) → IsFit st.types → SolvesBefore st (new_instance σ st).1
solved_instance σ st h p q = solved_variables σ.marks st.types p h q

-- the same of rigid variables

pub leaves_variable : (st : Progress) → IsFit st.types → LeavesBefore st (new_variable st).1
leaves_variable st h p q = leaves_before false false p st.types h q

leaves_variables : (marks : List Bool) (s p : State) → IsFit s → LeavesRigid p (with_variables false marks s)
    → LeavesRigid p s
leaves_variables [] s p h q = q
leaves_variables (mark ∷ marks) s p h q = leaves_before false mark p s h
    (leaves_variables marks (with_variable false mark s) p (fit_variable false mark s h) q)

pub leaves_instance : (σ : TypeScheme) (st : Progress) → IsFit st.types → LeavesBefore st (new_instance σ st).1
leaves_instance σ st h p q = leaves_variables σ.marks st.types p h q

-- ---- instances

-- a marked variable stays marked
mark_kept : (marks : List Bool) (s : State) (n : ℕ) → n < s.next → s.marks n ≡ true
    → (with_variables false marks s).marks n ≡ true
mark_kept [] s n h k = k
mark_kept (mark ∷ marks) s n h k = mark_kept marks (with_variable false mark s) n (omega (arith, h))
    (either_way (eqb n s.next) (λ e. let l : n ≡ s.next = eqb-true n s.next e in absurd (omega (arith, h, l)))
    (λ e. ap (λ b. cond b mark (s.marks n)) e ∙ k))

mark_new : (marks : List Bool) (s : State) (i : ℕ) → mark_of marks i ≡ true
    → (with_variables false marks s).marks (s.next + i) ≡ true
mark_new [] s i h = absurd (cc)
mark_new (mark ∷ marks) s zero h =
    subst (λ n. (with_variables false marks (with_variable false mark s)).marks n ≡ true)
    (let e : s.next ≡ s.next + 0 = omega arith in e)
    (mark_kept marks (with_variable false mark s) s.next (omega arith)
    (ap (λ b. cond b mark (s.marks s.next)) (eq-eqb s.next s.next refl) ∙ h))
mark_new (mark ∷ marks) s (suc i) h =
    subst (λ n. (with_variables false marks (with_variable false mark s)).marks n ≡ true)
    (let e : s.next + 1 + i ≡ s.next + suc i = omega arith in e)
    (mark_new marks (with_variable false mark s) i h)

-- under a choice that solves the state afterwards, what is new is an instance of the scheme under the choice
pub instance_under : (σ : TypeScheme) (st : Progress) (p : State) → Solves p (new_instance σ st).1.types
    → IsInstance p.marks (put_scheme p.stands σ) (put p.stands (new_instance σ st).0)
instance_under σ st p q = record {
  by = λ i. p.stands (st.types.next + i);
  admitted = λ i k. q.marks (st.types.next + i) (mark_new σ.marks st.types i k);
  is = fill_put (λ i. p.stands (st.types.next + i)) p.stands σ.body
      ∙ sym (put_fill p.stands (λ i. Ty.Var (st.types.next + i)) Ty.Var σ.body);
}

-- ---- with what is known of how states grow

pub ty_known : (sc : Scope) (ty : TyPhrase) (st : Progress) → IsReady Any sc st
    → Given (λ t. TyIn Any st.types t × ((s : Substitution) → TyDerived s sc ty t)) (infer_ty sc ty)
ty_known sc ty st h = given_both (TyIn Any st.types) (λ t. (s : Substitution) → TyDerived s sc ty t) (infer_ty sc ty)
    (ty_grows Any st.types sc ty h.scope)
    (given_each (λ s. TyDerived s sc ty) (infer_ty sc ty) (λ s. ty_derives s sc ty))

pub unify_known : (depth : ℕ) (sc : Scope) (at : At) (a b : Ty) (st : Progress) → IsFit st.types → TyIn Any st.types a
    → TyIn Any st.types b → Given (λ u. Grows Any st u × Joined a b st u) (unify_at depth sc at a b st)
unify_known depth sc at a b st h k l = given_both (Grows Any st) (Joined a b st) (unify_at depth sc at a b st)
    (unify_grows Any depth sc at a b st h k l) (unify_joins depth sc at a b st h)
