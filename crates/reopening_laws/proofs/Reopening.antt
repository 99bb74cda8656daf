-- A choice inside of a `val` from one around it.
use Rattle.std.proofs.Common.{◌≡◌, ℕ, zero, suc, ◌+◌, ◌-◌, ◌<◌, ◌≤◌, refl, sym, ap, ◌∙◌, subst, arith, Bool, true, false, cond}
use Rattle.std.proofs.lemmas.Bool.{eq-eqb, eqb-true, lt-ltb, le-ltb, ltb-true, ltb-false}
use Rattle.std.specs.Prelude.{eqb, ltb}
use Rattle.unification.specs.Types.{Ty, Types, Substitution, Marks, State, put, put_all, occurs, occurs_any, equality_of, admits, admits_all}
use Rattle.unification.specs.Unification.{Solves}
use Rattle.unification.specs.Touching.{AreWithin}
use Rattle.unification.specs.Fitting.{Below, IsBelow, IsFit}
use Rattle.unification.proofs.Walking.{either_way, or_left, or_right, or_either, and_left, and_right, and_both}
use Rattle.unification.proofs.Putting.{put-put, put_alike, put_free, put_solved}
use Rattle.unification.proofs.Requiring.{more_parts}
use Rattle.reopening_laws.specs.Reopening.{Reopened}

-- ---- a number above all variables of a type, and of what stands for the first variables

abbrev mutual
  above : Ty → ℕ
  above (Ty.Var n) = n + 1
  above (Ty.Made c ts) = above_all ts

  above_all : Types → ℕ
  above_all Types.Nil = 0
  above_all (Types.Cons t ts) = above t + above_all ts

mutual
  is_above : (t : Ty) → IsBelow (above t) t
  is_above (Ty.Var m) n e = let i : n ≡ m = eqb-true n m e in omega (arith, i)
  is_above (Ty.Made c ts) n e = are_above ts n e

  are_above : (ts : Types) → AreWithin (Below (above_all ts)) ts
  are_above Types.Nil n e = absurd (cc)
  are_above (Types.Cons t ts) n e = or_either (occurs n t) (occurs_any n ts) e
      (λ i. let l : n < above t = is_above t n i in omega (arith, l))
      (λ i. let l : n < above_all ts = are_above ts n i in omega (arith, l))

abbrev above_first : Substitution → ℕ → ℕ
above_first s zero = 0
above_first s (suc k) = above (s k) + above_first s k

below_before : (v k : ℕ) → v < suc k → eqb v k ≡ false → v < k
below_before v k h e = either_way (ltb v k) (λ i. ltb-true v k i)
    (λ i. let l : k ≤ v = ltb-false v k i in let same : v ≡ k = omega (arith, h, l) in
    let same_too : true ≡ false = sym (eq-eqb v k same) ∙ e in absurd (cc))

first_below : (s : Substitution) (k v : ℕ) → v < k → IsBelow (above_first s k) (s v)
first_below s zero v h n e = absurd (omega (arith, h))
first_below s (suc k) v h n e = either_way (eqb v k)
    (λ i. let l : n < above (s k) = is_above (s k) n (subst (λ z. occurs n (s z) ≡ true) (eqb-true v k i) e) in
    omega (arith, l))
    (λ i. let l : n < above_first s k = first_below s k v (below_before v k h i) n e in omega (arith, l))

first_beyond : (s : Substitution) (k v : ℕ) → v < k → IsBelow (k + above_first s k) (s v)
first_beyond s k v h n e = let l : n < above_first s k = first_below s k v h n e in omega (arith, l)

-- ---- equality types

mutual
  admits_put : (q r : Marks) (c : Substitution) (t : Ty)
      → ((v : ℕ) → occurs v t ≡ true → q v ≡ true → admits r (c v) ≡ true) → admits q t ≡ true
      → admits r (put c t) ≡ true
  admits_put q r c (Ty.Var n) h k = h n (eq-eqb n n refl) k
  admits_put q r c (Ty.Made d ts) h k =
      more_parts (equality_of d) (admits_all q ts) (admits_all r (put_all c ts)) (admits_puts q r c ts h) k

  admits_puts : (q r : Marks) (c : Substitution) (ts : Types)
      → ((v : ℕ) → occurs_any v ts ≡ true → q v ≡ true → admits r (c v) ≡ true) → admits_all q ts ≡ true
      → admits_all r (put_all c ts) ≡ true
  admits_puts q r c Types.Nil h k = refl
  admits_puts q r c (Types.Cons t ts) h k = and_both (admits r (put c t)) (admits_all r (put_all c ts))
      (admits_put q r c t (λ v e. h v (or_left (occurs v t) (occurs_any v ts) e))
      (and_left (admits q t) (admits_all q ts) k))
      (admits_puts q r c ts (λ v e. h v (or_right (occurs v t) (occurs_any v ts) e))
      (and_right (admits q t) (admits_all q ts) k))

-- an equality type is one under marks that have those of its variables
admits_on : (q r : Marks) (t : Ty) → ((v : ℕ) → occurs v t ≡ true → q v ≡ true → r v ≡ true) → admits q t ≡ true
    → admits r t ≡ true
admits_on q r t h k = subst (λ z. admits r z ≡ true) (put_free t) (admits_put q r Ty.Var t h k)

-- ---- the choice

abbrev reopens : (ℕ → Bool) → ℕ → Substitution → Substitution
reopens closes from s v = cond (closes v) (Ty.Var (from + v)) (s v)

abbrev marks_from : ℕ → Marks → Marks → Marks
marks_from from around own v = cond (ltb v from) (around v) (own (v - from))

marks_below : (from : ℕ) (around own : Marks) (v : ℕ) → v < from → marks_from from around own v ≡ around v
marks_below from around own v h = ap (λ z. cond z (around v) (own (v - from))) (lt-ltb v from h)

marks_beyond : (from : ℕ) (around own : Marks) (v : ℕ) → marks_from from around own (from + v) ≡ own v
marks_beyond from around own v =
    ap (λ z. cond z (around (from + v)) (own (from + v - from))) (le-ltb (from + v) from (omega arith))
    ∙ ap own (let k : from + v - from ≡ v = omega arith in k)

-- of an equality variable an equality type
where_reopened : (closes : ℕ → Bool) (p u : State) (from : ℕ) (v : ℕ) (c : Bool)
    → ((m : ℕ) → v < u.next → m < from → marks_from from p.marks u.marks m ≡ p.marks m)
    → (v < u.next → IsBelow from (p.stands v)) → v < u.next → u.marks v ≡ true
    → admits p.marks (p.stands v) ≡ true
    → admits (marks_from from p.marks u.marks) (cond c (Ty.Var (from + v)) (p.stands v)) ≡ true
where_reopened closes p u from v true h k l e i = marks_beyond from p.marks u.marks v ∙ e
where_reopened closes p u from v false h k l e i = admits_on p.marks (marks_from from p.marks u.marks) (p.stands v)
    (λ m o j. h m l (k l m o) ∙ j) i

pub reopened : (closes : ℕ → Bool) (p u : State) → IsFit u → Solves p u → Reopened closes p u
reopened closes p u h q =
    let from : ℕ = u.next + above_first p.stands u.next in
    let below : (v : ℕ) → v < u.next → IsBelow from (p.stands v) = first_beyond p.stands u.next in
    let c : Substitution = reopens closes from p.stands in
    let r : Marks = marks_from from p.marks u.marks in
    record {
      inside = record { next = u.next; stands = λ n. put c (u.stands n); marks = r; rigid = u.rigid };
      from = from;
      solves = record {
        types = λ n. sym (put-put c u.stands (u.stands n)) ∙ ap (put c) (h.settled.solves.types n);
        marks = λ n e. admits_put u.marks r c (u.stands n)
            (λ v o m. where_reopened closes p u from v (closes v)
            (λ w _ l. marks_below from p.marks u.marks w l) (below v) (h.marks v m) m
            (q.marks v m))
            (h.settled.solves.marks n e);
      };
      around = λ t apart. sym (put-put c u.stands t)
          ∙ put_alike c p.stands (put u.stands t)
          (λ n e. ap (λ z. cond z (Ty.Var (from + n)) (p.stands n)) (apart n e))
          ∙ put_solved p u t q;
      new = omega arith;
      below = below;
      closed = λ v e s. ap (put c) s ∙ ap (λ z. cond z (Ty.Var (from + v)) (p.stands v)) e;
      marked = marks_beyond from p.marks u.marks;
      marks = marks_below from p.marks u.marks;
    }
