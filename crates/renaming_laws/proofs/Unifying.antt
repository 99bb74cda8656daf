-- Unification moves with its variables.
use Rattle.std.proofs.Common.{◌≡◌, ℕ, zero, suc, ◌+◌, ◌<◌, ◌≤◌, refl, sym, ap, ap₂, ◌∙◌, subst, Option, Some, None, Bool, true, false, ◌||◌, cond, arith}
use Rattle.std.proofs.lemmas.Bool.{eq-eqb, eqb-true, ltb-true, ltb-false, lt-ltb}
use Rattle.std.specs.Prelude.{Result, Ok, Err, eqb, ltb}
use Rattle.sml_trees.specs.declared.name.At.{At}
use Rattle.semantic_objects.specs.Symbols.{same_symbol}
use Rattle.unification.specs.declared.equality.Equality.{Equality}
use Rattle.unification.specs.declared.equality.Equality.TheVariants as equality
use Rattle.unification.specs.Types.{Ty, Types, Substitution, Marks, State, put, put_all, occurs, occurs_any, size, size_all, equality_of, and_then, required_by, require_variable, require, require_all}
use Rattle.unification.specs.Unification.{Fault, single, bound_where, assign, link_by, link, solve, Answer, then, unify_all, unify_step, unify_in}
use Rattle.unification.proofs.Walking.{either_way, not_both}
use Rattle.unification.proofs.Putting.{put-put, put_same}
use Rattle.static_semantics.specs.Inferring.{Progress, Scope, unified, unify_at, is_too_large}
use Rattle.static_semantics.specs.EnvironmentsPut.{put_scope}
use Rattle.renaming_laws.specs.Moved.{moved, IsMoved, AreMoved, Both}

-- ---- numbers

pub eqb_moved : (k n m : ℕ) → eqb (n + k) (m + k) ≡ eqb n m
eqb_moved k n m = either_way (eqb n m)
    (λ e. eq-eqb (n + k) (m + k) (ap (λ z. z + k) (eqb-true n m e)) ∙ sym e)
    (λ e. either_way (eqb (n + k) (m + k))
    (λ f. let i : n + k ≡ m + k = eqb-true (n + k) (m + k) f in
    let j : n ≡ m = omega (arith, i) in
    absurd (not_both (eqb n m) e (eq-eqb n m j)))
    (λ f. f ∙ sym e))

ltb_moved : (k n m : ℕ) → ltb (n + k) (m + k) ≡ ltb n m
ltb_moved k n m = either_way (ltb n m)
    (λ e. let i : n < m = ltb-true n m e in lt-ltb (n + k) (m + k) (omega (arith, i)) ∙ sym e)
    (λ e. either_way (ltb (n + k) (m + k))
    (λ f. let i : n + k < m + k = ltb-true (n + k) (m + k) f in
    let j : m ≤ n = ltb-false n m e in
    absurd (omega (arith, i, j)))
    (λ f. f ∙ sym e))

-- ---- types

-- what is put in moves with what it is put in
pub put_moved : (k : ℕ) (p q : Substitution) (t : Ty) → ((n : ℕ) → q (n + k) ≡ put (moved k) (p n))
    → put q (put (moved k) t) ≡ put (moved k) (put p t)
put_moved k p q t h =
    put-put q (moved k) t ∙ put_same (λ n. q (n + k)) (λ n. put (moved k) (p n)) t h ∙ sym (put-put (moved k) p t)

pub known_moved : (k : ℕ) (s r : State) (t : Ty) → IsMoved k s r
    → put r.stands (put (moved k) t) ≡ put (moved k) (put s.stands t)
known_moved k s r t h = put_moved k s.stands r.stands t h.stands

mutual
  pub occurs_moved : (k v : ℕ) (t : Ty) → occurs (v + k) (put (moved k) t) ≡ occurs v t
  occurs_moved k v (Ty.Var n) = eqb_moved k v n
  occurs_moved k v (Ty.Made c ts) = occurs_any_moved k v ts

  occurs_any_moved : (k v : ℕ) (ts : Types) → occurs_any (v + k) (put_all (moved k) ts) ≡ occurs_any v ts
  occurs_any_moved k v Types.Nil = refl
  occurs_any_moved k v (Types.Cons t ts) = ap₂ (λ a b. a || b) (occurs_moved k v t) (occurs_any_moved k v ts)

mutual
  pub size_moved : (k : ℕ) (t : Ty) → size (put (moved k) t) ≡ size t
  size_moved k (Ty.Var n) = refl
  size_moved k (Ty.Made c ts) = ap (λ z. z + 1) (size_all_moved k ts)

  size_all_moved : (k : ℕ) (ts : Types) → size_all (put_all (moved k) ts) ≡ size_all ts
  size_all_moved k Types.Nil = refl
  size_all_moved k (Types.Cons t ts) = ap₂ (λ a b. a + b) (size_moved k t) (size_all_moved k ts)

pub large_moved : (k : ℕ) (t : Ty) → is_too_large (put (moved k) t) ≡ is_too_large t
large_moved k t = ap (ltb 65536) (size_moved k t)

-- ---- marks

abbrev MarksMoved : ℕ → Marks → Marks → Type 0
MarksMoved k q p = (n : ℕ) → p (n + k) ≡ q n

abbrev SomeMarks : ℕ → Option Marks → Option Marks → Type 0
SomeMarks k None None = Unit {0}
SomeMarks k None (Some p) = ⊥
SomeMarks k (Some q) None = ⊥
SomeMarks k (Some q) (Some p) = MarksMoved k q p

variable_moved : (k : ℕ) (a b : Bool) (n : ℕ) (q p : Marks) → MarksMoved k q p
    → SomeMarks k (require_variable a b n q) (require_variable a b (n + k) p)
variable_moved k false b n q p h = λ m. ap₂ (λ x y. x || y) (eqb_moved k n m) (h m)
variable_moved k true true n q p h = h
variable_moved k true false n q p h = tt

required_moved : (k : ℕ) (e : Equality) (q p : Marks) (o u : Option Marks) → MarksMoved k q p → SomeMarks k o u
    → SomeMarks k (required_by e q o) (required_by e p u)
required_moved k equality.Never q p o u h l = tt
required_moved k equality.Always q p o u h l = h
required_moved k equality.ByParts q p o u h l = l

then_moved : (k : ℕ) (o u : Option Marks) (f g : Marks → Option Marks) → SomeMarks k o u
    → ((q p : Marks) → MarksMoved k q p → SomeMarks k (f q) (g p)) → SomeMarks k (and_then o f) (and_then u g)
then_moved k None None f g h l = tt
then_moved k None (Some p) f g h l = absurd h
then_moved k (Some q) None f g h l = absurd h
then_moved k (Some q) (Some p) f g h l = l q p h

mutual
  require_moved : (k : ℕ) (a b : Marks) (t : Ty) (q p : Marks) → MarksMoved k a b → MarksMoved k q p
      → SomeMarks k (require a t q) (require b (put (moved k) t) p)
  require_moved k a b (Ty.Var n) q p h l =
      subst (λ z. SomeMarks k (require_variable (a n) (q n) n q) (require_variable z (p (n + k)) (n + k) p)) (sym (h n))
      (subst (λ z. SomeMarks k (require_variable (a n) (q n) n q) (require_variable (a n) z (n + k) p)) (sym (l n))
      (variable_moved k (a n) (q n) n q p l))
  require_moved k a b (Ty.Made c ts) q p h l =
      required_moved k (equality_of c) q p (require_all a ts q) (require_all b (put_all (moved k) ts) p) l
      (require_all_moved k a b ts q p h l)

  require_all_moved : (k : ℕ) (a b : Marks) (ts : Types) (q p : Marks) → MarksMoved k a b → MarksMoved k q p
      → SomeMarks k (require_all a ts q) (require_all b (put_all (moved k) ts) p)
  require_all_moved k a b Types.Nil q p h l = l
  require_all_moved k a b (Types.Cons t ts) q p h l =
      then_moved k (require a t q) (require b (put (moved k) t) p) (require_all a ts)
      (require_all b (put_all (moved k) ts)) (require_moved k a b t q p h l)
      (λ x y m. require_all_moved k a b ts x y h m)

-- ---- one variable

abbrev pub ResultsMoved : ℕ → Result State Fault → Result State Fault → Type 0
ResultsMoved k (Err e) (Err f) = f ≡ e
ResultsMoved k (Err e) (Ok r) = ⊥
ResultsMoved k (Ok s) (Err f) = ⊥
ResultsMoved k (Ok s) (Ok r) = IsMoved k s r

chosen_moved : (k : ℕ) (b : Bool) (t : Ty) (n : ℕ)
    → cond b (put (moved k) t) (Ty.Var (n + k)) ≡ put (moved k) (cond b t (Ty.Var n))
chosen_moved k true t n = refl
chosen_moved k false t n = refl

single_moved : (k v : ℕ) (t : Ty) (n : ℕ)
    → single (v + k) (put (moved k) t) (n + k) ≡ put (moved k) (single v t n)
single_moved k v t n = ap (λ b. cond b (put (moved k) t) (Ty.Var (n + k))) (eqb_moved k v n)
    ∙ chosen_moved k (eqb v n) t n

bound_moved : (k v : ℕ) (t : Ty) (s r : State) (o u : Option Marks) → IsMoved k s r → SomeMarks k o u
    → ResultsMoved k (bound_where v t s o) (bound_where (v + k) (put (moved k) t) r u)
bound_moved k v t s r None None h l = refl
bound_moved k v t s r None (Some p) h l = absurd l
bound_moved k v t s r (Some q) None h l = absurd l
bound_moved k v t s r (Some q) (Some p) h l = record {
  next = h.next;
  stands = λ n. ap (put (single (v + k) (put (moved k) t))) (h.stands n)
      ∙ put_moved k (single v t) (single (v + k) (put (moved k) t)) (s.stands n) (single_moved k v t);
  marks = l;
  rigid = h.rigid;
}

asked_moved : (k : ℕ) (b : Bool) (t : Ty) (s r : State) → IsMoved k s r
    → SomeMarks k (cond b (require s.rigid t s.marks) (Some s.marks))
    (cond b (require r.rigid (put (moved k) t) r.marks) (Some r.marks))
asked_moved k true t s r h = require_moved k s.rigid r.rigid t s.marks r.marks h.rigid h.marks
asked_moved k false t s r h = h.marks

assign_moved : (k v : ℕ) (t : Ty) (s r : State) → IsMoved k s r
    → ResultsMoved k (assign v t s) (assign (v + k) (put (moved k) t) r)
assign_moved k v t s r h = bound_moved k v t s r (cond (s.marks v) (require s.rigid t s.marks) (Some s.marks))
    (cond (r.marks (v + k)) (require r.rigid (put (moved k) t) r.marks) (Some r.marks)) h
    (subst (λ b. SomeMarks k (cond (s.marks v) (require s.rigid t s.marks) (Some s.marks))
    (cond b (require r.rigid (put (moved k) t) r.marks) (Some r.marks))) (sym (h.marks v))
    (asked_moved k (s.marks v) t s r h))

either_moved : (k : ℕ) (b c : Bool) (x y z w : Result State Fault) → c ≡ b → ResultsMoved k x z → ResultsMoved k y w
    → ResultsMoved k (cond b x y) (cond c z w)
either_moved k true true x y z w e h l = h
either_moved k false false x y z w e h l = l
either_moved k true false x y z w e h l = absurd (cc)
either_moved k false true x y z w e h l = absurd (cc)

link_by_moved : (k : ℕ) (a b : Bool) (v w : ℕ) (s r : State) → IsMoved k s r
    → ResultsMoved k (link_by a b v w s) (link_by a b (v + k) (w + k) r)
link_by_moved k true true v w s r h = refl
link_by_moved k true false v w s r h = assign_moved k w (Ty.Var v) s r h
link_by_moved k false true v w s r h = assign_moved k v (Ty.Var w) s r h
link_by_moved k false false v w s r h =
    either_moved k (ltb v w) (ltb (v + k) (w + k)) (assign w (Ty.Var v) s) (assign v (Ty.Var w) s)
    (assign (w + k) (Ty.Var (v + k)) r) (assign (v + k) (Ty.Var (w + k)) r) (ltb_moved k v w)
    (assign_moved k w (Ty.Var v) s r h) (assign_moved k v (Ty.Var w) s r h)

link_moved : (k v w : ℕ) (s r : State) → IsMoved k s r → ResultsMoved k (link v w s) (link (v + k) (w + k) r)
link_moved k v w s r h =
    either_moved k (eqb v w) (eqb (v + k) (w + k)) (Ok s) (link_by (s.rigid v) (s.rigid w) v w s) (Ok r)
    (link_by (r.rigid (v + k)) (r.rigid (w + k)) (v + k) (w + k) r) (eqb_moved k v w) h
    (subst (λ z. ResultsMoved k (link_by (s.rigid v) (s.rigid w) v w s) (link_by z (r.rigid (w + k)) (v + k) (w + k) r))
    (sym (h.rigid v))
    (subst (λ z. ResultsMoved k (link_by (s.rigid v) (s.rigid w) v w s) (link_by (s.rigid v) z (v + k) (w + k) r))
    (sym (h.rigid w)) (link_by_moved k (s.rigid v) (s.rigid w) v w s r h)))

solve_moved : (k v : ℕ) (t : Ty) (s r : State) → IsMoved k s r
    → ResultsMoved k (solve v t s) (solve (v + k) (put (moved k) t) r)
solve_moved k v t s r h =
    either_moved k (s.rigid v) (r.rigid (v + k)) (Err Fault.Clash)
    (cond (occurs v t) (Err Fault.Circular) (assign v t s)) (Err Fault.Clash)
    (cond (occurs (v + k) (put (moved k) t)) (Err Fault.Circular) (assign (v + k) (put (moved k) t) r)) (h.rigid v) refl
    (either_moved k (occurs v t) (occurs (v + k) (put (moved k) t)) (Err Fault.Circular) (assign v t s)
    (Err Fault.Circular)
    (assign (v + k) (put (moved k) t) r) (occurs_moved k v t) refl (assign_moved k v t s r h))

-- ---- unification

abbrev pub AnswersMoved : ℕ → Answer → Answer → Type 0
AnswersMoved k None None = Unit {0}
AnswersMoved k None (Some y) = ⊥
AnswersMoved k (Some x) None = ⊥
AnswersMoved k (Some x) (Some y) = ResultsMoved k x y

abbrev MovesParts : ℕ → (Ty → Ty → State → Answer) → Type 0
MovesParts k rec = (a b : Ty) (s r : State) → IsMoved k s r
    → AnswersMoved k (rec a b s) (rec (put (moved k) a) (put (moved k) b) r)

next_moved : (k : ℕ) (x y : Answer) (f g : State → Answer) → AnswersMoved k x y
    → ((s r : State) → IsMoved k s r → AnswersMoved k (f s) (g r)) → AnswersMoved k (then x f) (then y g)
next_moved k None None f g h l = tt
next_moved k None (Some y) f g h l = absurd h
next_moved k (Some (Err e)) None f g h l = absurd h
next_moved k (Some (Ok s)) None f g h l = absurd h
next_moved k (Some (Err e)) (Some (Err i)) f g h l = h
next_moved k (Some (Err e)) (Some (Ok r)) f g h l = absurd h
next_moved k (Some (Ok s)) (Some (Err i)) f g h l = absurd h
next_moved k (Some (Ok s)) (Some (Ok r)) f g h l = l s r h

parts_moved : (k : ℕ) (rec : Ty → Ty → State → Answer) → MovesParts k rec → (ts us : Types) (s r : State)
    → IsMoved k s r
    → AnswersMoved k (unify_all rec ts us s) (unify_all rec (put_all (moved k) ts) (put_all (moved k) us) r)
parts_moved k rec m Types.Nil Types.Nil s r h = h
parts_moved k rec m Types.Nil (Types.Cons u us) s r h = refl
parts_moved k rec m (Types.Cons t ts) Types.Nil s r h = refl
parts_moved k rec m (Types.Cons t ts) (Types.Cons u us) s r h =
    next_moved k (rec t u s) (rec (put (moved k) t) (put (moved k) u) r) (unify_all rec ts us)
    (unify_all rec (put_all (moved k) ts) (put_all (moved k) us)) (m t u s r h)
    (λ p q i. parts_moved k rec m ts us p q i)

symbols_moved : (k : ℕ) (b : Bool) (x y : Answer) → AnswersMoved k x y
    → AnswersMoved k (cond b x (Some (Err Fault.Clash))) (cond b y (Some (Err Fault.Clash)))
symbols_moved k true x y h = h
symbols_moved k false x y h = refl

step_moved : (k : ℕ) (rec : Ty → Ty → State → Answer) → MovesParts k rec → (a b : Ty) (s r : State) → IsMoved k s r
    → AnswersMoved k (unify_step rec a b s) (unify_step rec (put (moved k) a) (put (moved k) b) r)
step_moved k rec m (Ty.Var v) (Ty.Var w) s r h = link_moved k v w s r h
step_moved k rec m (Ty.Var v) (Ty.Made d us) s r h = solve_moved k v (Ty.Made d us) s r h
step_moved k rec m (Ty.Made c ts) (Ty.Var w) s r h = solve_moved k w (Ty.Made c ts) s r h
step_moved k rec m (Ty.Made c ts) (Ty.Made d us) s r h =
    symbols_moved k (same_symbol c d) (unify_all rec ts us s)
    (unify_all rec (put_all (moved k) ts) (put_all (moved k) us) r) (parts_moved k rec m ts us s r h)

pub unify_moved : (k depth : ℕ) → MovesParts k (unify_in depth)
unify_moved k zero a b s r h = tt
unify_moved k (suc n) a b s r h =
    subst (λ z. AnswersMoved k (unify_step (unify_in n) (put s.stands a) (put s.stands b) s)
    (unify_step (unify_in n) z (put r.stands (put (moved k) b)) r)) (sym (known_moved k s r a h))
    (subst (λ z. AnswersMoved k (unify_step (unify_in n) (put s.stands a) (put s.stands b) s)
    (unify_step (unify_in n) (put (moved k) (put s.stands a)) z r)) (sym (known_moved k s r b h))
    (step_moved k (unify_in n) (unify_moved k n) (put s.stands a) (put s.stands b) s r h))

fault_moved : (k : ℕ) (sc : Scope) (at : At) (st u : Progress) (x y : Answer) → u.names ≡ st.names
    → AnswersMoved k x y → Both (AreMoved k) (unified sc at st x) (unified (put_scope (moved k) sc) at u y)
fault_moved k sc at st u None None e h = tt
fault_moved k sc at st u None (Some y) e h = absurd h
fault_moved k sc at st u (Some (Err i)) None e h = absurd h
fault_moved k sc at st u (Some (Ok s)) None e h = absurd h
fault_moved k sc at st u (Some (Err i)) (Some (Err j)) e h =
    subst (λ z. Both (AreMoved k) (unified sc at st (Some (Err i))) (unified (put_scope (moved k) sc) at u (Some (Err z))))
    (sym h) refl
fault_moved k sc at st u (Some (Err i)) (Some (Ok r)) e h = absurd h
fault_moved k sc at st u (Some (Ok s)) (Some (Err j)) e h = absurd h
fault_moved k sc at st u (Some (Ok s)) (Some (Ok r)) e h = record { types = h; names = e }

pub unify_at_moved : (k depth : ℕ) (sc : Scope) (at : At) (a b : Ty) (st u : Progress) → AreMoved k st u
    → Both (AreMoved k) (unify_at depth sc at a b st)
    (unify_at depth (put_scope (moved k) sc) at (put (moved k) a) (put (moved k) b) u)
unify_at_moved k depth sc at a b st u h =
    fault_moved k sc at st u (unify_in depth a b st.types)
    (unify_in depth (put (moved k) a) (put (moved k) b) u.types) h.names
    (unify_moved k depth a b st.types u.types h.types)
