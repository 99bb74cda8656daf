-- A declaration that is entered into its scope, and the phrase that stands behind it there.
use Rattle.std.proofs.Common.{◌≡◌, ℕ, length, refl, sym, ◌∙◌, subst}
use Rattle.std.specs.Prelude.{Result, Ok, Err, IfOk}
use Rattle.cm_base.specs.declared.fault.Fault.{Fault}
use Rattle.cm_base.specs.declared.fault.Fault.TheVariants as fault
use Rattle.sml_trees.specs.declared.name.At.{At}
use Rattle.semantic_objects.specs.declared.name.TyId.{TyId}
use Rattle.type_nodes.specs.Tables.{Table, state}
use Rattle.type_nodes.specs.Keeping.{IsKept}
use Rattle.sml_modules.specs.Graphs.{Graph}
use Rattle.bare_phrases.specs.Phrases.{ExpPhrase, DecPhrase, DecPhrases}
use Rattle.static_semantics.specs.Inferring.{under}
use Rattle.static_semantics.specs.CoreInference.{within_let}
use Rattle.core_scopes.specs.declared.made.Made.{Made}
use Rattle.core_scopes.specs.Scopes.{Bindings}
use Rattle.core_scopes.specs.Marks.{IsFrontOf, env_of_made}
use Rattle.type_phrases.specs.Inferred.{KeepsTypes}
use Rattle.type_phrases.proofs.Keeping.{keeps_all, keeps_later}
use Rattle.pattern_elab.specs.declared.own.OwnVariable.{OwnVariable}
use Rattle.pattern_elab.specs.Scopes.{own_entry}
use Rattle.value_closing.specs.Under.{IsUnder}
use Rattle.core_rules.specs.Rules.{IsRule}
use Rattle.core_rules.specs.Moments.{Moment, moment, scope_at, IsCoreAt, typed_as, Passes}
use Rattle.core_rules.specs.Ready.{made_at, IsReadyAt, IsReadyBehind}
use Rattle.core_rules.specs.Expressions.{IsExp, ends_sized}
use Rattle.core_rules.specs.Declarations.{IsDeclared}
use Rattle.core_rules.specs.Joined.{IsNothing, joined, made_where, AreEntered}
use Rattle.core_rules.proofs.Chains.{core_kept, memory, passes_table}
use Rattle.core_rules.proofs.Readying.{entered, behind}
use Rattle.core_rules.proofs.Joining.{joined_first, decs_all}
use Rattle.core_rules.proofs.Declaring.{IsChecked, dec_memory, local_first, local_second, local_done, shown_done, body_done, let_first, let_second, let_numbered, made_after}
use Rattle.core_elab.specs.declared.exp.LetBody.{LetBody}
use Rattle.core_elab.specs.Inside.{Enters, IsInside, IsLetBody, IsShown, IsShownBehind}

-- ---- what is entered

pub enters_all : {m0 : Moment} {g : Graph} {t : Table} {s2 : Bindings OwnVariable} {phrases : DecPhrases}
    {all : Made OwnVariable} {r : Result (Unit {0}) Fault} (at : At) → IsCoreAt m0
    → AreEntered m0 phrases all (moment g t s2) r → Enters m0 (DecPhrase.Sequence phrases at) all (moment g t s2) r
enters_all {m0} {g} {t} {s2} {phrases} {all} {r} at core h = record {
  declares = decs_all {m0 = m0} {g = g} {t = t} {s2 = s2} {s3 = m0.scope} {phrases = phrases} {all = all} r
      (made_where all r) core h refl refl;
  under = h.under;
  front = h.front;
}

module _ {m0 : Moment} {g : Graph} {t t1 : Table} {s1 s2 : Bindings OwnVariable} (p : DecPhrase)
    (made : Made OwnVariable) (k : KeepsTypes t t1) (h : IsDeclared m0 p (moment g t s1) (Ok made)) where
  pub enters_one : (all new : Made OwnVariable) → IsNothing all → state t1 ≡ state t
      → IsUnder g t1 (env_of_made g own_entry made) s1 s2 → new ≡ joined all made
      → Enters m0 p new (moment g t1 s2) (Ok tt)
  enters_one all new n e u f =
      let same : made ≡ new = joined_first all made n ∙ sym f in
      let after : IsDeclared m0 p (moment g t1 s1) (Ok made) = made_after made p k e h in
      record {
        declares = subst (λ (x : Made OwnVariable). IsDeclared m0 p (moment g t1 m0.scope) (Ok x)) same
            (subst (λ (sc : Bindings OwnVariable). IsDeclared m0 p (moment g t1 sc) (Ok made)) h.elabs.left after);
        under = subst (λ (x : Made OwnVariable). IsUnder g t1 (env_of_made g own_entry x) m0.scope s2) same
            (subst (λ (sc : Bindings OwnVariable). IsUnder g t1 (env_of_made g own_entry made) sc s2) h.elabs.left u);
        front = subst (λ (sc : Bindings OwnVariable). IsFrontOf sc s2) h.elabs.left u.front;
      }

  pub enters_memory : (new : Made OwnVariable) → IsCoreAt m0 → IsFrontOf m0.scope m0.scope → s2 ≡ s1
      → Enters m0 p new (moment g t1 s2) (Err fault.NoMemory)
  enters_memory new core front e =
      let goes : Passes m0 (moment g t1 m0.scope) = record {
        graph = h.elabs.goes.graph;
        home = h.elabs.goes.home;
        ids = keeps_later m0.table t t1 h.elabs.goes.ids k;
      } in
      record {
        declares = record {
          elabs = memory goes refl (core_kept {old = m0} {new = moment g t1 m0.scope} core goes refl);
          envs = tt;
        };
        under = tt;
        front = subst (λ (sc : Bindings OwnVariable). IsFrontOf m0.scope sc) (sym (e ∙ h.elabs.left)) front;
      }

pub enters_failed : {m0 : Moment} {g : Graph} {t : Table} {s1 : Bindings OwnVariable} {all : Made OwnVariable}
    {e : Fault} (p : DecPhrase) → IsFrontOf m0.scope m0.scope → IsDeclared m0 p (moment g t s1) (Err e)
    → Enters m0 p all (moment g t s1) (Err e)
enters_failed {m0} {g} {t} {s1} {all} {e} p front h = record {
  declares = subst (λ (sc : Bindings OwnVariable). IsDeclared m0 p (moment g t sc) (Err e)) h.elabs.left h;
  under = tt;
  front = subst (λ (sc : Bindings OwnVariable). IsFrontOf m0.scope sc) (sym h.elabs.left) front;
}

-- a phrase as it is written
pub enters_as : {m0 new : Moment} {p q : DecPhrase} {all : Made OwnVariable} {r : Result (Unit {0}) Fault} → p ≡ q
    → Enters m0 q all new r → Enters m0 p all new r
enters_as {m0} {new} {p} {q} {all} {r} e h = subst (λ z. Enters m0 z all new r) (sym e) h

-- ---- what stands behind it

module _ {m0 : Moment} {g : Graph} {t : Table} {s1 : Bindings OwnVariable} (p : DecPhrase) (all : Made OwnVariable)
    (at : At) (h : Enters m0 p all (moment g t s1) (Ok tt)) where
  abbrev here : Moment
  here = moment g t m0.scope

  pub ready_inside : IsReadyAt m0 → IsKept t → IsReadyAt (moment g t s1)
  ready_inside r k =
      let b : IsReadyBehind here all = behind {m0 = m0} {m1 = here} p all r k h.declares in
      entered here (moment g t s1) (under (made_at here all) (scope_at here)) h.under.seen
      (h.under.there t (keeps_all t) h.declares.elabs.core) k b.state

  front_inside : {s2 : Bindings OwnVariable} → s2 ≡ s1 → IsFrontOf m0.scope s2
  front_inside {s2} e = subst (λ (sc : Bindings OwnVariable). IsFrontOf m0.scope sc) (sym e) h.front

  pub inside_done : {g2 : Graph} {t2 : Table} {s2 : Bindings OwnVariable} (body : ExpPhrase) (inside : LetBody)
      → inside.to ≡ length g.made → IsExp (moment g t s1) body (moment g2 t2 s2) (Ok inside.id)
      → IsInside m0 (ExpPhrase.Let p body at) (moment g2 t2 s2) (Ok inside)
  inside_done {g2} {t2} {s2} body inside e k = record {
    answers = record {
      made = all;
      between = here;
      declares = h.declares;
      behind = body_done {m0 = here} {g = g2} {t = t2} {s1 = s1} {s2 = s2} {s3 = m0.scope} all body
          h.declares.elabs.core h.under k refl;
      numbers = e;
    };
    front = front_inside k.left;
  }

  pub inside_second : {g2 : Graph} {t2 : Table} {s2 : Bindings OwnVariable} {e : Fault} (body : ExpPhrase)
      → IsCoreAt m0 → IsExp (moment g t s1) body (moment g2 t2 s2) (Err e)
      → IsInside m0 (ExpPhrase.Let p body at) (moment g2 t2 s2) (Err e)
  inside_second {g2} {t2} {s2} {e} body core k = record {
    answers = let_second {m0 = m0} {m1 = here} p body at core h.declares
        (body_done {m0 = here} {g = g2} {t = t2} {s1 = s1} {s2 = s2} {s3 = m0.scope} all body
        h.declares.elabs.core h.under k refl);
    front = front_inside k.left;
  }

  pub shown_behind : {g2 : Graph} {t2 : Table} {s2 : Bindings OwnVariable} (q : DecPhrase)
      (r : Result (Made OwnVariable) Fault) → IsCoreAt m0 → IsDeclared (moment g t s1) q (moment g2 t2 s2) r
      → IsShown m0 (DecPhrase.Local p q at) (moment g2 t2 s2) r
  shown_behind {g2} {t2} {s2} q (Ok more) core k = record {
    answers = record {
      made = all;
      between = here;
      declares = h.declares;
      behind = shown_done {m0 = here} {g = g2} {t = t2} {s1 = s1} {s2 = s2} {s3 = m0.scope} all q
          h.declares.elabs.core h.under k refl;
    };
    front = front_inside k.elabs.left;
  }
  shown_behind {g2} {t2} {s2} q (Err e) core k = record {
    answers = local_second {m0 = m0} {m1 = here} p q at core h.declares
        (shown_done {m0 = here} {g = g2} {t = t2} {s1 = s1} {s2 = s2} {s3 = m0.scope} all q
        h.declares.elabs.core h.under k refl);
    front = front_inside k.elabs.left;
  }

module _ {m0 : Moment} {g : Graph} {t : Table} {s1 : Bindings OwnVariable} {all : Made OwnVariable} {e : Fault}
    (p : DecPhrase) (at : At) (h : Enters m0 p all (moment g t s1) (Err e)) where
  pub inside_first : (body : ExpPhrase) → IsInside m0 (ExpPhrase.Let p body at) (moment g t s1) (Err e)
  inside_first body = record { answers = let_first p body at h.declares; front = h.front }

  pub shown_first : (q : DecPhrase) → IsShown m0 (DecPhrase.Local p q at) (moment g t s1) (Err e)
  shown_first q = record { answers = local_first p q at h.declares; front = h.front }

-- phrases as they are written
pub inside_as : {m0 new : Moment} {p q : ExpPhrase} {r : Result LetBody Fault} → p ≡ q → IsInside m0 q new r
    → IsInside m0 p new r
inside_as {m0} {new} {p} {q} {r} e h = subst (λ z. IsInside m0 z new r) (sym e) h

pub shown_as : {m0 new : Moment} {p q : DecPhrase} {r : Result (Made OwnVariable) Fault} → p ≡ q → IsShown m0 q new r
    → IsShown m0 p new r
shown_as {m0} {new} {p} {q} {r} e h = subst (λ z. IsShown m0 z new r) (sym e) h

-- another phrase is answered as want of memory is
pub inside_memory : {m : Moment} {p : ExpPhrase} → IsCoreAt m → IsFrontOf m.scope m.scope
    → IsInside m p m (Err fault.NoMemory)
inside_memory {m} {p} core front = record {
  answers = memory (passes_table m m.table m.scope (keeps_all m.table)) refl core;
  front = front;
}

pub shown_memory : {m : Moment} {p : DecPhrase} → IsCoreAt m → IsFrontOf m.scope m.scope
    → IsShown m p m (Err fault.NoMemory)
shown_memory {m} {p} core front = record { answers = dec_memory {m = m} core; front = front }

-- ---- when the scope is left

module _ {m0 : Moment} {g : Graph} {t : Table} {s2 : Bindings OwnVariable} where
  pub body_of : {phrase : ExpPhrase} {inside : LetBody} (p : DecPhrase) (body : ExpPhrase) (at : At)
      → phrase ≡ ExpPhrase.Let p body at → IsInside m0 phrase (moment g t s2) (Ok inside)
      → IsLetBody m0 p body (moment g t m0.scope) inside
  body_of {phrase} {inside} p body at e h = (subst (λ z. IsInside m0 z (moment g t s2) (Ok inside)) e h).answers

  pub local_of : {phrase : DecPhrase} {more : Made OwnVariable} (p q : DecPhrase) (at : At)
      → phrase ≡ DecPhrase.Local p q at → IsShown m0 phrase (moment g t s2) (Ok more)
      → IsShownBehind m0 p q (moment g t m0.scope) more
  local_of {phrase} {more} p q at e h = (subst (λ z. IsShown m0 z (moment g t s2) (Ok more)) e h).answers

module _ {m0 : Moment} {g : Graph} {t : Table} {s3 : Bindings OwnVariable} (left : s3 ≡ m0.scope) where
  pub let_refused : {s2 : Bindings OwnVariable} {phrase : ExpPhrase} {e : Fault}
      → IsInside m0 phrase (moment g t s2) (Err e) → IsExp m0 phrase (moment g t s3) (Err e)
  let_refused {s2} {phrase} {e} h =
      subst (λ (sc : Bindings OwnVariable). IsExp m0 phrase (moment g t sc) (Err e)) (sym left) h.answers

  pub let_ended : {phrase : ExpPhrase} {r : Result TyId Fault} {new : Table} {inside : LetBody} (p : DecPhrase)
      (body : ExpPhrase) (at : At) (from : ℕ) → phrase ≡ ExpPhrase.Let p body at → IsCoreAt m0
      → IsLetBody m0 p body (moment g t m0.scope) inside → from ≡ length m0.graph.made
      → IsRule g t new (λ sc. ends_sized sc at (within_let sc at from inside.to
      (typed_as (moment g t m0.scope) inside.id))) r → IsExp m0 phrase (moment g new s3) r
  let_ended {phrase} {r} {new} {inside} p body at from e core h f l =
      subst (λ (sc : Bindings OwnVariable). IsExp m0 phrase (moment g new sc) r) (sym left)
      (subst (λ z. IsExp m0 z (moment g new m0.scope) r) (sym e)
      (let_numbered {m0 = m0} {m1 = h.between} {m2 = moment g t m0.scope} p body at from inside.to core
      h.declares h.behind f h.numbers l))

  pub local_refused : {s2 : Bindings OwnVariable} {phrase : DecPhrase} {e : Fault}
      → IsShown m0 phrase (moment g t s2) (Err e) → IsDeclared m0 phrase (moment g t s3) (Err e)
  local_refused {s2} {phrase} {e} h =
      subst (λ (sc : Bindings OwnVariable). IsDeclared m0 phrase (moment g t sc) (Err e)) (sym left) h.answers

  pub local_ended : {phrase : DecPhrase} {r : Result (Made OwnVariable) Fault} {new : Table} {more : Made OwnVariable}
      (p q : DecPhrase) (at : At) → phrase ≡ DecPhrase.Local p q at → IsCoreAt m0
      → IsShownBehind m0 p q (moment g t m0.scope) more → new ≡ t → IsChecked g t at more r
      → IfOk r (λ same. same ≡ more) → IsDeclared m0 phrase (moment g new s3) r
  local_ended {phrase} {r} {new} {more} p q at e core h f z same =
      subst (λ (sc : Bindings OwnVariable). IsDeclared m0 phrase (moment g new sc) r) (sym left)
      (subst (λ z. IsDeclared m0 z (moment g new m0.scope) r) (sym e)
      (local_done {m0 = m0} {m1 = h.between} p q at {m2 = moment g t m0.scope} core h.declares h.behind f z same))
