-- Unification gives a most general state, and a fault only where no choice makes the types equal.
use Rattle.std.proofs.Common.{◌≡◌, ℕ, zero, suc, refl, sym, ap, ap₂, ◌∙◌, subst, Option, Some, None, Bool, true, false, cond}
use Rattle.std.proofs.lemmas.Bool.{eqb-true, eqb-false}
use Rattle.std.specs.Prelude.{Result, Ok, Err, eqb, ltb}
use Rattle.semantic_objects.proofs.Same.{symbol_is, symbol_not}
use Rattle.semantic_objects.specs.Symbols.{same_symbol}
use Rattle.semantic_objects.specs.declared.symbol.Symbol.{Symbol}
use Rattle.unification.specs.Types.{Ty, Types, Marks, State, put, put_all, occurs, occurs_any, admits, require}
use Rattle.unification.specs.Unification.{Fault, single, bind, bound_where, assign, link_by, link, solve, Answer, then, unify_all, unify_step, unify_in, Solves, LeavesRigid, IsSettled, IsMostGeneral, AnswersFor, MakesEqual, MakesAllEqual}
use Rattle.unification.proofs.Walking.{either_way, not_both}
use Rattle.unification.proofs.Putting.{put-put, put_free, put_solved, one_same, one_of, one_absent, put_one, circular}
use Rattle.unification.proofs.Requiring.{Enough, Demanded, Admits, held, same_demand, admits_put, requires}

-- ---- answers to any question about choices

-- two questions that are one for the choices that solve a state have one answer
same_answer : (A B : State → Type 0) (s : State) (r : Result State Fault)
    → ((p : State) → Solves p s → A p → B p) → ((p : State) → Solves p s → B p → A p)
    → AnswersFor A s r → AnswersFor B s r
same_answer A B s (Err x) there back m = λ p k l b. m p k l (back p k b)
same_answer A B s (Ok r) there back m = record {
  settled = m.settled;
  rigid = m.rigid;
  next = m.next;
  unmarked = m.unmarked;
  sound = λ p k. (let d = m.sound p k in (d.0, there p d.0 d.1));
  general = λ p k l b. m.general p k l (back p k b);
}

already : (A : State → Type 0) (s : State) → IsSettled s → ((p : State) → A p) → IsMostGeneral s s A
already A s h all = record {
  settled = h;
  rigid = refl;
  next = refl;
  unmarked = λ n i k. k;
  sound = λ p k. (k, all p);
  general = λ p k l a. k;
}

-- a rigid variable that is marked in the state after is marked in the state before, so what leaves alone the rigid
-- variables of the one does so for the other
still_marked : (A : State → Type 0) (s m : State) → IsMostGeneral s m A → (n : ℕ) → m.rigid n ≡ true
    → s.marks n ≡ true → m.marks n ≡ true
still_marked A s m g n i k =
    subst (λ t. admits m.marks t ≡ true) (g.settled.leaves.alone n i) ((g.sound m g.settled.solves).0.marks n k)

leaves_after : (A : State → Type 0) (p s m : State) → IsMostGeneral s m A → LeavesRigid p s → LeavesRigid p m
leaves_after A p s m g l =
    let back : (n : ℕ) → m.rigid n ≡ true → s.rigid n ≡ true = λ n i. subst (λ z. z n ≡ true) g.rigid i in
    record {
      alone = λ n i. l.alone n (back n i);
      unmarked = λ n i k. still_marked A s m g n i (l.unmarked n (back n i) k);
    }

-- one question, and another one in the state that it led to
second_answer : (A B : State → Type 0) (s m : State) (r : Result State Fault) → IsMostGeneral s m A
    → AnswersFor B m r → AnswersFor (λ p. A p × B p) s r
second_answer A B s m (Err x) g h = λ p k l both.
    h p (g.general p k l both.0) (leaves_after A p s m g l) both.1
second_answer A B s m (Ok r) g h = record {
  settled = h.settled;
  rigid = h.rigid ∙ g.rigid;
  next = h.next ∙ g.next;
  unmarked = λ n i k. g.unmarked n i (h.unmarked n (subst (λ z. z n ≡ true) (sym g.rigid) i) k);
  sound = λ p k. (let this = h.sound p k in let that = g.sound p this.0 in (that.0, (that.1, this.1)));
  general = λ p k l both. h.general p (g.general p k l both.0) (leaves_after A p s m g l) both.1;
}

answer_is : (A : State → Type 0) (s : State) (q r : Result State Fault) → Some q ≡ Some r → AnswersFor A s q
    → AnswersFor A s r
answer_is A s q r e = subst (AnswersFor A s) (let k : q ≡ r = cc in k)

in_turn : (A B : State → Type 0) (s : State) (q : Answer) (f : State → Answer) (r : Result State Fault)
    → ((o : Result State Fault) → q ≡ Some o → AnswersFor A s o)
    → ((m : State) → IsSettled m → (o : Result State Fault) → f m ≡ Some o → AnswersFor B m o)
    → then q f ≡ Some r → AnswersFor (λ p. A p × B p) s r
in_turn A B s None f r first rest e = absurd (cc)
in_turn A B s (Some (Err x)) f r first rest e =
    answer_is (λ p. A p × B p) s (Err x) r e (λ p k l both. first (Err x) refl p k l both.0)
in_turn A B s (Some (Ok m)) f r first rest e =
    let g : IsMostGeneral s m A = first (Ok m) refl in
    second_answer A B s m r g (rest m g.settled r e)

-- ---- a type for a variable

-- for a variable that isn't rigid, and for which nothing stands, a type in which it doesn't occur and everything has
-- been put in
record MayTake (s : State) (v : ℕ) (t : Ty) : Type 0 where
  settled : IsSettled s
  flexible : s.rigid v ≡ false
  free : s.stands v ≡ Ty.Var v
  whole : put s.stands t ≡ t
  absent : occurs v t ≡ false

abbrev after : ℕ → Ty → State → Marks → State
after v t s q = record { next = s.next; stands = bind v t s.stands; marks = q; rigid = s.rigid }

-- the type admits equality where the variable has to
abbrev AsMarked : ℕ → Ty → State → State → Type 0
AsMarked v t s p = s.marks v ≡ true → Admits t p

-- a choice that makes nothing of variables, with these marks
abbrev plainly : State → Marks → State
plainly s q = record { next = s.next; stands = Ty.Var; marks = q; rigid = s.rigid }

-- where these marks are enough, what stands for each marked variable after the type was put in admits equality
marked_after : (v : ℕ) (t : Ty) (s : State) (q : Marks) → Enough (AsMarked v t s) s.rigid s.marks q → (n : ℕ)
    → s.marks n ≡ true → admits q (single v t n) ≡ true
marked_after v t s q enough = one_of (λ n u. s.marks n ≡ true → admits q u ≡ true) v t
    (λ k. subst (λ u. admits q u ≡ true) (put_free t) (enough.given (plainly s q) (λ n i. i) k))
    (λ n _ k. enough.more n k)

rigid_stays : (v : ℕ) (t : Ty) (rigid : Marks) → rigid v ≡ false → (n : ℕ) → rigid n ≡ true → single v t n ≡ Ty.Var n
rigid_stays v t rigid flexible = one_of (λ n u. rigid n ≡ true → u ≡ Ty.Var n) v t
    (λ k. absurd (not_both (rigid v) flexible k)) (λ n _ k. refl)

taken : (v : ℕ) (t : Ty) (s : State) (q : Marks) → MayTake s v t → Enough (AsMarked v t s) s.rigid s.marks q
    → IsMostGeneral s (after v t s q) (MakesEqual (Ty.Var v) t)
taken v t s q h enough =
    let r : State = after v t s q in
    let here : r.stands v ≡ t = ap (put (single v t)) h.free ∙ one_same v t in
    let made : (p : State) → Solves p r → p.stands v ≡ put p.stands t =
    λ p k. sym (k.types v) ∙ ap (put p.stands) here in
    let through : (p : State) → p.stands v ≡ put p.stands t → (n : ℕ)
    → put p.stands (r.stands n) ≡ put p.stands (s.stands n) = λ p e n. put_one p.stands v t e (s.stands n) in
    let solves : (p : State) → Solves p s → p.stands v ≡ put p.stands t → Solves p r = λ p k e. record {
      types = λ n. through p e n ∙ k.types n;
      marks = enough.needed p k.marks (λ i. subst (λ u. admits p.marks u ≡ true) e (k.marks v i));
    } in
    let again : (u : Ty) → put r.stands u ≡ put (single v t) (put s.stands u) =
    λ u. sym (put-put (single v t) s.stands u) in
    let itself : r.stands v ≡ put r.stands t =
    here ∙ sym (again t ∙ ap (put (single v t)) h.whole ∙ one_absent v t t h.absent) in
    let old : Solves r s = record {
      types = λ n. again (s.stands n) ∙ ap (put (single v t)) (h.settled.solves.types n);
      marks = λ n k. admits_put s.marks q (single v t) (s.stands n) (marked_after v t s q enough)
          (h.settled.solves.marks n k);
    } in
    record {
      settled = record {
        solves = solves r old itself;
        leaves = record {
          alone = λ n k. ap (put (single v t)) (h.settled.leaves.alone n k)
              ∙ rigid_stays v t s.rigid h.flexible n k;
          unmarked = λ n k m. m;
        };
      };
      rigid = refl;
      next = refl;
      unmarked = enough.spared;
      sound = λ p k. (
        record {
          types = λ n. sym (through p (made p k) n) ∙ k.types n;
          marks = λ n m. k.marks n (enough.more n m);
        },
        made p k,
      );
      general = λ p k l e. solves p k e;
    }

-- the marks that `assign` asks for
asked : (v : ℕ) (t : Ty) (s : State) (b : Bool) → s.marks v ≡ b
    → Demanded (AsMarked v t s) s.rigid s.marks (cond b (require s.rigid t s.marks) (Some s.marks))
asked v t s true e = same_demand (Admits t) (AsMarked v t s) s.rigid s.marks (require s.rigid t s.marks)
    (λ p a _. a) (λ p a. a e) (requires t s.rigid s.marks)
asked v t s false e = held (AsMarked v t s) s.rigid s.marks (λ p m k. absurd (not_both (s.marks v) e k))

answered : (v : ℕ) (t : Ty) (s : State) (o : Option Marks) → MayTake s v t
    → Demanded (AsMarked v t s) s.rigid s.marks o → AnswersFor (MakesEqual (Ty.Var v) t) s (bound_where v t s o)
answered v t s None h none = λ p k l e. none p (record { alone = l.alone; unmarked = l.unmarked })
    (λ i. subst (λ u. admits p.marks u ≡ true) e (k.marks v i))
answered v t s (Some q) h enough = taken v t s q h enough

assigned : (v : ℕ) (t : Ty) (s : State) → MayTake s v t → AnswersFor (MakesEqual (Ty.Var v) t) s (assign v t s)
assigned v t s h = answered v t s (cond (s.marks v) (require s.rigid t s.marks) (Some s.marks)) h
    (asked v t s (s.marks v) refl)

-- ---- variables

-- two variables for which nothing stands, and that aren't one
record AreTwo (s : State) (v w : ℕ) : Type 0 where
  settled : IsSettled s
  free : s.stands v ≡ Ty.Var v
  free_too : s.stands w ≡ Ty.Var w
  differ : eqb v w ≡ false

turned : (s : State) (v w : ℕ) → AreTwo s v w → AreTwo s w v
turned s v w h = record {
  settled = h.settled;
  free = h.free_too;
  free_too = h.free;
  differ = either_way (eqb w v) (λ e. absurd (eqb-false v w h.differ (sym (eqb-true w v e)))) (λ e. e);
}

gives_way : (s : State) (v w : ℕ) → AreTwo s v w → s.rigid v ≡ false
    → AnswersFor (MakesEqual (Ty.Var v) (Ty.Var w)) s (assign v (Ty.Var w) s)
gives_way s v w h flexible = assigned v (Ty.Var w) s (record {
  settled = h.settled;
  flexible = flexible;
  free = h.free;
  whole = h.free_too;
  absent = h.differ;
})

other_gives_way : (s : State) (v w : ℕ) → AreTwo s v w → s.rigid w ≡ false
    → AnswersFor (MakesEqual (Ty.Var v) (Ty.Var w)) s (assign w (Ty.Var v) s)
other_gives_way s v w h flexible =
    same_answer (MakesEqual (Ty.Var w) (Ty.Var v)) (MakesEqual (Ty.Var v) (Ty.Var w)) s (assign w (Ty.Var v) s)
    (λ p _ e. sym e) (λ p _ e. sym e) (gives_way s w v (turned s v w h) flexible)

whichever : (A : State → Type 0) (s : State) (b : Bool) (q r : Result State Fault) → AnswersFor A s q
    → AnswersFor A s r → AnswersFor A s (cond b q r)
whichever A s true q r h k = h
whichever A s false q r h k = k

variables_differ : (v w : ℕ) → eqb v w ≡ false → Ty.Var v ≡ Ty.Var w → ⊥
variables_differ v w h e = eqb-false v w h (let k : v ≡ w = cc in k)

linked_by : (a b : Bool) (v w : ℕ) (s : State) → AreTwo s v w → s.rigid v ≡ a → s.rigid w ≡ b
    → AnswersFor (MakesEqual (Ty.Var v) (Ty.Var w)) s (link_by a b v w s)
linked_by false false v w s h i j = whichever (MakesEqual (Ty.Var v) (Ty.Var w)) s (ltb v w) (assign w (Ty.Var v) s)
    (assign v (Ty.Var w) s) (other_gives_way s v w h j) (gives_way s v w h i)
linked_by false true v w s h i j = gives_way s v w h i
linked_by true false v w s h i j = other_gives_way s v w h j
linked_by true true v w s h i j = λ p _ l e. variables_differ v w h.differ (sym (l.alone v i) ∙ e ∙ l.alone w j)

linked : (v w : ℕ) (s : State) (b : Bool) → eqb v w ≡ b → IsSettled s → s.stands v ≡ Ty.Var v → s.stands w ≡ Ty.Var w
    → AnswersFor (MakesEqual (Ty.Var v) (Ty.Var w)) s (cond b (Ok s) (link_by (s.rigid v) (s.rigid w) v w s))
linked v w s true e h free free_too =
    already (MakesEqual (Ty.Var v) (Ty.Var w)) s h (λ p. ap p.stands (eqb-true v w e))
linked v w s false e h free free_too = linked_by (s.rigid v) (s.rigid w) v w s
    (record { settled = h; free = free; free_too = free_too; differ = e }) refl refl

not_made : (v : ℕ) (c : Symbol) (ts : Types) → Ty.Var v ≡ Ty.Made c ts → ⊥
not_made v c ts e = absurd (cc)

solved : (v : ℕ) (c : Symbol) (ts : Types) (s : State) (a b : Bool) → s.rigid v ≡ a → occurs_any v ts ≡ b
    → IsSettled s → s.stands v ≡ Ty.Var v → put s.stands (Ty.Made c ts) ≡ Ty.Made c ts
    → AnswersFor (MakesEqual (Ty.Var v) (Ty.Made c ts)) s
    (cond a (Err Fault.Clash) (cond b (Err Fault.Circular) (assign v (Ty.Made c ts) s)))
solved v c ts s true b i o h free whole = λ p _ l e. not_made v c (put_all p.stands ts) (sym (l.alone v i) ∙ e)
solved v c ts s false true i o h free whole = λ p _ _ e. circular p.stands v c ts o e
solved v c ts s false false i o h free whole = assigned v (Ty.Made c ts) s
    (record { settled = h; flexible = i; free = free; whole = whole; absent = o })

-- ---- symbols and their parts

-- what is asked of the unification of parts
abbrev pub IsRight : (Ty → Ty → State → Answer) → Type 0
IsRight rec = (a b : Ty) (s : State) (r : Result State Fault) → IsSettled s → rec a b s ≡ Some r
    → AnswersFor (MakesEqual a b) s r

parts_right : (rec : Ty → Ty → State → Answer) → IsRight rec → (ts us : Types) (s : State) (r : Result State Fault)
    → IsSettled s → unify_all rec ts us s ≡ Some r → AnswersFor (MakesAllEqual ts us) s r
parts_right rec right Types.Nil Types.Nil s r h e = answer_is (MakesAllEqual Types.Nil Types.Nil) s (Ok s) r e
    (already (MakesAllEqual Types.Nil Types.Nil) s h (λ p. refl))
parts_right rec right Types.Nil (Types.Cons u us) s r h e =
    answer_is (MakesAllEqual Types.Nil (Types.Cons u us)) s (Err Fault.Clash) r e (λ p _ _ k. absurd (cc))
parts_right rec right (Types.Cons t ts) Types.Nil s r h e =
    answer_is (MakesAllEqual (Types.Cons t ts) Types.Nil) s (Err Fault.Clash) r e (λ p _ _ k. absurd (cc))
parts_right rec right (Types.Cons t ts) (Types.Cons u us) s r h e =
    same_answer (λ p. MakesEqual t u p × MakesAllEqual ts us p) (MakesAllEqual (Types.Cons t ts) (Types.Cons u us)) s r
    (λ p _ both. ap₂ Types.Cons both.0 both.1) (λ p _ k. ((cc), (cc)))
    (in_turn (MakesEqual t u) (MakesAllEqual ts us) s (rec t u s) (unify_all rec ts us) r
    (λ o k. right t u s o h k) (λ m k o f. parts_right rec right ts us m o k f) e)

symbols_right : (rec : Ty → Ty → State → Answer) → IsRight rec → (same : Bool) (c d : Symbol) (ts us : Types)
    (s : State) (r : Result State Fault) → same_symbol c d ≡ same → IsSettled s
    → cond same (unify_all rec ts us s) (Some (Err Fault.Clash)) ≡ Some r
    → AnswersFor (MakesEqual (Ty.Made c ts) (Ty.Made d us)) s r
symbols_right rec right true c d ts us s r k h e =
    same_answer (MakesAllEqual ts us) (MakesEqual (Ty.Made c ts) (Ty.Made d us)) s r
    (λ p _ i. ap₂ Ty.Made (symbol_is c d k) i) (λ p _ i. (cc)) (parts_right rec right ts us s r h e)
symbols_right rec right false c d ts us s r k h e =
    answer_is (MakesEqual (Ty.Made c ts) (Ty.Made d us)) s (Err Fault.Clash) r e (λ p _ _ i. symbol_not c d k (cc))

-- ---- unification

step_right : (rec : Ty → Ty → State → Answer) → IsRight rec → (a b : Ty) (s : State) (r : Result State Fault)
    → IsSettled s → put s.stands a ≡ a → put s.stands b ≡ b → unify_step rec a b s ≡ Some r
    → AnswersFor (MakesEqual a b) s r
step_right rec right (Ty.Var v) (Ty.Var w) s r h i j e =
    answer_is (MakesEqual (Ty.Var v) (Ty.Var w)) s (link v w s) r e (linked v w s (eqb v w) refl h i j)
step_right rec right (Ty.Var v) (Ty.Made d us) s r h i j e =
    answer_is (MakesEqual (Ty.Var v) (Ty.Made d us)) s (solve v (Ty.Made d us) s) r e
    (solved v d us s (s.rigid v) (occurs_any v us) refl refl h i j)
step_right rec right (Ty.Made c ts) (Ty.Var w) s r h i j e =
    same_answer (MakesEqual (Ty.Var w) (Ty.Made c ts)) (MakesEqual (Ty.Made c ts) (Ty.Var w)) s r (λ p _ k. sym k)
    (λ p _ k. sym k)
    (answer_is (MakesEqual (Ty.Var w) (Ty.Made c ts)) s (solve w (Ty.Made c ts) s) r e
    (solved w c ts s (s.rigid w) (occurs_any w ts) refl refl h j i))
step_right rec right (Ty.Made c ts) (Ty.Made d us) s r h i j e =
    symbols_right rec right (same_symbol c d) c d ts us s r refl h e

pub most_general : (n : ℕ) (a b : Ty) (s : State) (r : Result State Fault) → IsSettled s → unify_in n a b s ≡ Some r
    → AnswersFor (MakesEqual a b) s r
most_general zero a b s r h e = absurd (cc)
most_general (suc n) a b s r h e =
    same_answer (MakesEqual (put s.stands a) (put s.stands b)) (MakesEqual a b) s r
    (λ p k i. sym (put_solved p s a k) ∙ i ∙ put_solved p s b k)
    (λ p k i. put_solved p s a k ∙ i ∙ sym (put_solved p s b k))
    (step_right (unify_in n) (most_general n) (put s.stands a) (put s.stands b) s r h (put_solved s s a h.solves)
    (put_solved s s b h.solves) e)
