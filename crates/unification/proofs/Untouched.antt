-- Unification touches only variables of its two types, and what it puts in holds only such.
use Rattle.std.proofs.Common.{◌≡◌, ℕ, zero, suc, refl, sym, ap, ◌∙◌, subst, Option, Some, None, Bool, true, false, ◌||◌, cond, ◌⊎◌, inl, inr}
use Rattle.std.proofs.lemmas.Bool.{eq-eqb, eqb-true}
use Rattle.std.specs.Prelude.{Result, Ok, Err, eqb, ltb}
use Rattle.semantic_objects.specs.Symbols.{same_symbol}
use Rattle.unification.specs.declared.equality.Equality.{Equality}
use Rattle.unification.specs.declared.equality.Equality.TheVariants as equality
use Rattle.unification.specs.Touching.{IsWithin, AreWithin, Touches, TouchesIn, OfTwo}
use Rattle.unification.specs.Types.{Ty, Types, Substitution, Marks, State, put, put_all, occurs, occurs_any, equality_of, and_then, required_by, require_variable, require, require_all}
use Rattle.unification.specs.Unification.{Fault, single, bound_where, assign, link_by, link, solve, Answer, then, unify_all, unify_step, unify_in, IsSettled, IsMostGeneral, MakesEqual}
use Rattle.unification.proofs.Walking.{walk, either_way, not_both, or_left, or_right, or_either}
use Rattle.unification.proofs.Putting.{put-put, put_same, put_still, put_free, put_solved, one_of}
use Rattle.unification.proofs.General.{IsRight, most_general}

-- ---- variables of types

-- all variables of a type are such where those of what was put in are
pub within_put : (Q : ℕ → Type 0) (f : Substitution) (t : Ty) → ((n : ℕ) → occurs n t ≡ true → IsWithin Q (f n))
    → IsWithin Q (put f t)
within_put Q f t h = walk (λ n. IsWithin Q (f n)) (λ u. IsWithin Q (put f u)) (λ us. AreWithin Q (put_all f us))
    (record {
      variable = λ n k. k;
      made = λ c ts k. k;
      none = λ n e. absurd (cc);
      more = λ u us k ks n e. or_either (occurs n (put f u)) (occurs_any n (put_all f us)) e (k n) (ks n);
    })
    t h

lone : (P : ℕ → Type 0) (v : ℕ) → P v → IsWithin P (Ty.Var v)
lone P v h n e = subst P (sym (eqb-true n v e)) h

first_of : (P : ℕ → Type 0) (t : Ty) (ts : Types) → AreWithin P (Types.Cons t ts) → IsWithin P t
first_of P t ts h n e = h n (or_left (occurs n t) (occurs_any n ts) e)

rest_of : (P : ℕ → Type 0) (t : Ty) (ts : Types) → AreWithin P (Types.Cons t ts) → AreWithin P ts
rest_of P t ts h n e = h n (or_right (occurs n t) (occurs_any n ts) e)

-- ---- marks

-- of other variables no more are marked than before
abbrev SparesOthers : (ℕ → Type 0) → Marks → Marks → Type 0
SparesOthers P q r = (n : ℕ) → (P n → ⊥) → r n ≡ true → q n ≡ true

abbrev MarksOwn : (ℕ → Type 0) → Marks → Option Marks → Type 0
MarksOwn P q None = Unit {0}
MarksOwn P q (Some r) = SparesOthers P q r

marks_after : (P : ℕ → Type 0) (q r : Marks) (o : Option Marks) → SparesOthers P q r → MarksOwn P r o → MarksOwn P q o
marks_after P q r None h k = tt
marks_after P q r (Some u) h k = λ n i e. h n i (k n i e)

marks_both : (P : ℕ → Type 0) (q : Marks) (o : Option Marks) (f : Marks → Option Marks) → MarksOwn P q o
    → ((r : Marks) → MarksOwn P r (f r)) → MarksOwn P q (and_then o f)
marks_both P q None f h k = tt
marks_both P q (Some r) f h k = marks_after P q r (f r) h (k r)

marks_variable : (P : ℕ → Type 0) (n : ℕ) (q : Marks) (a b : Bool) → P n → MarksOwn P q (require_variable a b n q)
marks_variable P n q true true h = λ m i e. e
marks_variable P n q true false h = tt
marks_variable P n q false b h = λ m i e.
    or_either (eqb n m) (q m) e (λ same. absurd (i (subst P (eqb-true n m same) h))) (λ old. old)

marks_kind : (P : ℕ → Type 0) (k : Equality) (q : Marks) (o : Option Marks) → MarksOwn P q o
    → MarksOwn P q (required_by k q o)
marks_kind P equality.Never q o h = tt
marks_kind P equality.Always q o h = λ n i e. e
marks_kind P equality.ByParts q o h = h

marks_required : (P : ℕ → Type 0) (rigid : Marks) (t : Ty) → IsWithin P t → (q : Marks)
    → MarksOwn P q (require rigid t q)
marks_required P rigid = walk P (λ u. (q : Marks) → MarksOwn P q (require rigid u q))
    (λ us. (q : Marks) → MarksOwn P q (require_all rigid us q))
    (record {
      variable = λ n h q. marks_variable P n q (rigid n) (q n) h;
      made = λ c ts h q. marks_kind P (equality_of c) q (require_all rigid ts q) (h q);
      none = λ q n i e. e;
      more = λ u us h hs q. marks_both P q (require rigid u q) (require_all rigid us) (h q) hs;
    })

-- ---- one variable

-- an answer that touches such variables alone
abbrev Fine : (ℕ → Type 0) → State → Result State Fault → Type 0
Fine P s r = TouchesIn P s r

either_fine : (P : ℕ → Type 0) (s : State) (b : Bool) (q r : Result State Fault) → Fine P s q → Fine P s r
    → Fine P s (cond b q r)
either_fine P s true q r h k = h
either_fine P s false q r h k = k

bound_fine : (P : ℕ → Type 0) (v : ℕ) (t : Ty) (s : State) (o : Option Marks) → P v → IsWithin P t
    → MarksOwn P s.marks o → Fine P s (bound_where v t s o)
bound_fine P v t s None h k m = tt
bound_fine P v t s (Some q) h k m = record {
  change = single v t;
  stands = λ n. refl;
  outside = one_of (λ n u. (P n → ⊥) → u ≡ Ty.Var n) v t (λ i. absurd (i h)) (λ n _ i. refl);
  inside = one_of (λ n u. P n → IsWithin P u) v t (λ _. k) (λ n _ i. lone P n i);
  marks = m;
}

marks_asked : (P : ℕ → Type 0) (v : ℕ) (t : Ty) (s : State) (b : Bool) → IsWithin P t
    → MarksOwn P s.marks (cond b (require s.rigid t s.marks) (Some s.marks))
marks_asked P v t s true h = marks_required P s.rigid t h s.marks
marks_asked P v t s false h = λ n i e. e

assign_fine : (P : ℕ → Type 0) (v : ℕ) (t : Ty) (s : State) → P v → IsWithin P t → Fine P s (assign v t s)
assign_fine P v t s h k =
    bound_fine P v t s (cond (s.marks v) (require s.rigid t s.marks) (Some s.marks)) h k
    (marks_asked P v t s (s.marks v) k)

nothing_touched : (P : ℕ → Type 0) (s : State) → Touches P s s
nothing_touched P s = record {
  change = Ty.Var;
  stands = λ n. sym (put_free (s.stands n));
  outside = λ n i. refl;
  inside = lone P;
  marks = λ n i e. e;
}

link_fine : (P : ℕ → Type 0) (a b : Bool) (v w : ℕ) (s : State) → P v → P w → Fine P s (link_by a b v w s)
link_fine P true true v w s h k = tt
link_fine P true false v w s h k = assign_fine P w (Ty.Var v) s k (lone P v h)
link_fine P false true v w s h k = assign_fine P v (Ty.Var w) s h (lone P w k)
link_fine P false false v w s h k = either_fine P s (ltb v w) (assign w (Ty.Var v) s) (assign v (Ty.Var w) s)
    (assign_fine P w (Ty.Var v) s k (lone P v h)) (assign_fine P v (Ty.Var w) s h (lone P w k))

solve_fine : (P : ℕ → Type 0) (v : ℕ) (t : Ty) (s : State) → P v → IsWithin P t → Fine P s (solve v t s)
solve_fine P v t s h k = either_fine P s (s.rigid v) (Err Fault.Clash)
    (cond (occurs v t) (Err Fault.Circular) (assign v t s)) tt
    (either_fine P s (occurs v t) (Err Fault.Circular) (assign v t s) tt (assign_fine P v t s h k))

-- ---- one change after another

-- what a type comes to after a change
pub put_changed : (P : ℕ → Type 0) (s m : State) (h : Touches P s m) (t : Ty)
    → put m.stands t ≡ put h.change (put s.stands t)
put_changed P s m h t =
    put_same m.stands (λ n. put h.change (s.stands n)) t h.stands ∙ sym (put-put h.change s.stands t)

both_touched : (P : ℕ → Type 0) (s m : State) (r : Result State Fault) → Touches P s m → Fine P m r → Fine P s r
both_touched P s m (Err e) h k = tt
both_touched P s m (Ok r) h k = record {
  change = λ n. put k.change (h.change n);
  stands = λ n. k.stands n ∙ ap (put k.change) (h.stands n) ∙ put-put k.change h.change (s.stands n);
  outside = λ n i. ap (put k.change) (h.outside n i) ∙ k.outside n i;
  inside = λ n i. within_put P k.change (h.change n) (λ m e. k.inside m (h.inside n i m e));
  marks = λ n i e. h.marks n i (k.marks n i e);
}

still_within : (P : ℕ → Type 0) (s m : State) → Touches P s m → (t : Ty) → IsWithin P (put s.stands t)
    → IsWithin P (put m.stands t)
still_within P s m h t k = subst (IsWithin P) (sym (put_changed P s m h t))
    (within_put P h.change (put s.stands t) (λ n e. h.inside n (k n e)))

all_still_within : (P : ℕ → Type 0) (s m : State) → Touches P s m → (ts : Types) → AreWithin P (put_all s.stands ts)
    → AreWithin P (put_all m.stands ts)
all_still_within P s m h Types.Nil k n e = absurd (cc)
all_still_within P s m h (Types.Cons t ts) k n e =
    or_either (occurs n (put m.stands t)) (occurs_any n (put_all m.stands ts)) e
    (still_within P s m h t (first_of P (put s.stands t) (put_all s.stands ts) k) n)
    (all_still_within P s m h ts (rest_of P (put s.stands t) (put_all s.stands ts) k) n)

-- ---- unification

fine_is : (P : ℕ → Type 0) (s : State) (q r : Result State Fault) → Some q ≡ Some r → Fine P s q → Fine P s r
fine_is P s q r e = subst (Fine P s) (let k : q ≡ r = cc in k)

-- what is asked of the unification of parts
abbrev IsFine : (ℕ → Type 0) → (Ty → Ty → State → Answer) → Type 0
IsFine P rec = (a b : Ty) (s : State) (r : Result State Fault) → IsSettled s → IsWithin P (put s.stands a)
    → IsWithin P (put s.stands b) → rec a b s ≡ Some r → Fine P s r

then_fine : (P : ℕ → Type 0) (s : State) (q : Answer) (f : State → Answer) (r : Result State Fault)
    → ((m : State) → q ≡ Some (Ok m) → Touches P s m)
    → ((m : State) → q ≡ Some (Ok m) → Touches P s m → f m ≡ Some r → Fine P m r) → then q f ≡ Some r → Fine P s r
then_fine P s None f r first rest e = absurd (cc)
then_fine P s (Some (Err x)) f r first rest e = fine_is P s (Err x) r e tt
then_fine P s (Some (Ok m)) f r first rest e =
    let h : Touches P s m = first m refl in both_touched P s m r h (rest m refl h e)

parts_fine : (P : ℕ → Type 0) (rec : Ty → Ty → State → Answer) → IsRight rec → IsFine P rec → (ts us : Types)
    (s : State) (r : Result State Fault) → IsSettled s → AreWithin P (put_all s.stands ts)
    → AreWithin P (put_all s.stands us) → unify_all rec ts us s ≡ Some r → Fine P s r
parts_fine P rec right fine Types.Nil Types.Nil s r h k l e = fine_is P s (Ok s) r e (nothing_touched P s)
parts_fine P rec right fine Types.Nil (Types.Cons u us) s r h k l e = fine_is P s (Err Fault.Clash) r e tt
parts_fine P rec right fine (Types.Cons t ts) Types.Nil s r h k l e = fine_is P s (Err Fault.Clash) r e tt
parts_fine P rec right fine (Types.Cons t ts) (Types.Cons u us) s r h k l e =
    then_fine P s (rec t u s) (unify_all rec ts us) r
    (λ m i. fine t u s (Ok m) h (first_of P (put s.stands t) (put_all s.stands ts) k)
    (first_of P (put s.stands u) (put_all s.stands us) l) i)
    (λ m i g f. let most : IsMostGeneral s m (MakesEqual t u) = right t u s (Ok m) h i in
    parts_fine P rec right fine ts us m r most.settled
    (all_still_within P s m g ts (rest_of P (put s.stands t) (put_all s.stands ts) k))
    (all_still_within P s m g us (rest_of P (put s.stands u) (put_all s.stands us) l)) f) e

symbols_fine : (P : ℕ → Type 0) (s : State) (same : Bool) (q : Answer) (r : Result State Fault)
    → (q ≡ Some r → Fine P s r) → cond same q (Some (Err Fault.Clash)) ≡ Some r → Fine P s r
symbols_fine P s true q r h e = h e
symbols_fine P s false q r h e = fine_is P s (Err Fault.Clash) r e tt

step_fine : (P : ℕ → Type 0) (rec : Ty → Ty → State → Answer) → IsRight rec → IsFine P rec → (a b : Ty) (s : State)
    (r : Result State Fault) → IsSettled s → put s.stands a ≡ a → put s.stands b ≡ b → IsWithin P a → IsWithin P b
    → unify_step rec a b s ≡ Some r → Fine P s r
step_fine P rec right fine (Ty.Var v) (Ty.Var w) s r h i j k l e = fine_is P s (link v w s) r e
    (either_fine P s (eqb v w) (Ok s) (link_by (s.rigid v) (s.rigid w) v w s) (nothing_touched P s)
    (link_fine P (s.rigid v) (s.rigid w) v w s (k v (eq-eqb v v refl)) (l w (eq-eqb w w refl))))
step_fine P rec right fine (Ty.Var v) (Ty.Made d us) s r h i j k l e = fine_is P s (solve v (Ty.Made d us) s) r e
    (solve_fine P v (Ty.Made d us) s (k v (eq-eqb v v refl)) l)
step_fine P rec right fine (Ty.Made c ts) (Ty.Var w) s r h i j k l e = fine_is P s (solve w (Ty.Made c ts) s) r e
    (solve_fine P w (Ty.Made c ts) s (l w (eq-eqb w w refl)) k)
step_fine P rec right fine (Ty.Made c ts) (Ty.Made d us) s r h i j k l e =
    symbols_fine P s (same_symbol c d) (unify_all rec ts us s) r
    (parts_fine P rec right fine ts us s r h (subst (IsWithin P) (sym i) k) (subst (IsWithin P) (sym j) l)) e

pub touches : (P : ℕ → Type 0) (n : ℕ) (a b : Ty) (s : State) (r : Result State Fault) → IsSettled s
    → IsWithin P (put s.stands a) → IsWithin P (put s.stands b) → unify_in n a b s ≡ Some r → TouchesIn P s r
touches P zero a b s r h k l e = absurd (cc)
touches P (suc n) a b s r h k l e = step_fine P (unify_in n) (most_general n) (touches P n) (put s.stands a)
    (put s.stands b) s r h (put_solved s s a h.solves) (put_solved s s b h.solves) k l e

-- ---- for the variables of the two types

pub touches_two : (n : ℕ) (a b : Ty) (s : State) (r : Result State Fault) → IsSettled s → unify_in n a b s ≡ Some r
    → TouchesIn (OfTwo a b s) s r
touches_two n a b s r h = touches (OfTwo a b s) n a b s r h
    (λ m k. or_left (occurs m (put s.stands a)) (occurs m (put s.stands b)) k)
    (λ m k. or_right (occurs m (put s.stands a)) (occurs m (put s.stands b)) k)

pub type_untouched : (n : ℕ) (a b : Ty) (s r : State) → IsSettled s → unify_in n a b s ≡ Some (Ok r) → (t : Ty)
    → ((m : ℕ) → occurs m (put s.stands t) ≡ true → OfTwo a b s m → ⊥) → put r.stands t ≡ put s.stands t
type_untouched n a b s r h e t apart =
    let g : Touches (OfTwo a b s) s r = touches_two n a b s (Ok r) h e in
    put_changed (OfTwo a b s) s r g t ∙ put_still g.change (put s.stands t) (λ m k. g.outside m (apart m k))

-- a variable in what stands for a variable afterwards stood there before, or is of the two types
pub holds_only : (n : ℕ) (a b : Ty) (s r : State) → IsSettled s → unify_in n a b s ≡ Some (Ok r) → (v w : ℕ)
    → occurs w (r.stands v) ≡ true → (occurs w (s.stands v) ≡ true) ⊎ OfTwo a b s w
holds_only n a b s r h e v =
    let g : Touches (OfTwo a b s) s r = touches_two n a b s (Ok r) h e in
    let Q : ℕ → Type 0 = λ w. (occurs w (s.stands v) ≡ true) ⊎ OfTwo a b s w in
    subst (IsWithin Q) (sym (g.stands v)) (within_put Q g.change (s.stands v)
    (λ m there. either_way (occurs m (put s.stands a) || occurs m (put s.stands b))
    (λ own w k. inr (g.inside m own w k))
    (λ other. subst (IsWithin Q)
    (sym (g.outside m (not_both (occurs m (put s.stands a) || occurs m (put s.stands b)) other)))
    (lone Q m (inl there)))))
