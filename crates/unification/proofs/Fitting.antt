-- Unification, new variables and instances keep states fit.
use Rattle.std.proofs.Common.{◌≡◌, ℕ, ◌+◌, ◌<◌, ◌≤◌, refl, sym, ap, ◌∙◌, subst, Some, Bool, true, false, cond, arith, List, [], ◌∷◌, length}
use Rattle.std.proofs.lemmas.Bool.{eqb-true, ltb-true, ltb-false}
use Rattle.std.specs.Prelude.{Ok, eqb, ltb}
use Rattle.semantic_objects.specs.Trees.{Tree, TypeScheme, binds, frees}
use Rattle.unification.specs.Fitting.{Below, IsBelow, IsFit, no_variable, IsSchemeOf}
use Rattle.unification.specs.Instances.{fill, fill_all, with_variable, with_variables, instance}
use Rattle.unification.specs.Touching.{IsWithin, AreWithin, Touches}
use Rattle.unification.specs.Types.{Ty, Substitution, Marks, State, put, occurs, occurs_any, admits}
use Rattle.unification.specs.Unification.{unify_in, Solves, LeavesRigid, IsSettled, IsMostGeneral, MakesEqual}
use Rattle.unification.proofs.Walking.{either_way, or_either, walk_tree}
use Rattle.unification.proofs.Requiring.{admits_more}
use Rattle.unification.proofs.General.{most_general}
use Rattle.unification.proofs.Untouched.{within_put, touches}

-- ---- unification

pub put_below : (s : State) (t : Ty) → IsFit s → IsBelow s.next t → IsBelow s.next (put s.stands t)
put_below s t h k = within_put (Below s.next) s.stands t (λ n e. h.below n (k n e))

-- a state like another one, in which only its variables were touched
record Changed (s r : State) : Type 0 where
  settled : IsSettled r
  next : r.next ≡ s.next
  rigid : r.rigid ≡ s.rigid
  touched : Touches (Below s.next) s r

not_below : (n k : ℕ) → k ≤ n → n < k → ⊥
not_below n k h l = absurd (omega (arith, h, l))

changed_fit : (s r : State) → IsFit s → Changed s r → IsFit r
changed_fit s r h c =
    let g : Touches (Below s.next) s r = c.touched in
    record {
      settled = c.settled;
      beyond = λ n k. let l : s.next ≤ n = subst (λ z. z ≤ n) c.next k in
          g.stands n ∙ ap (put g.change) (h.beyond n l) ∙ g.outside n (not_below n s.next l);
      below = λ n k. subst (λ z. IsBelow z (r.stands n)) (sym c.next)
          (subst (IsBelow s.next) (sym (g.stands n)) (within_put (Below s.next) g.change (s.stands n)
          (λ m e. g.inside m (h.below n (subst (λ z. n < z) c.next k) m e))));
      marks = λ n k. subst (λ z. n < z) (sym c.next) (either_way (ltb n s.next) (λ e. ltb-true n s.next e)
          (λ e. h.marks n (g.marks n (not_below n s.next (ltb-false n s.next e)) k)));
      rigid = λ n k. subst (λ z. n < z) (sym c.next) (h.rigid n (subst (λ z. z n ≡ true) c.rigid k));
    }

pub fit_unified : (n : ℕ) (a b : Ty) (s r : State) → IsFit s → IsBelow s.next a → IsBelow s.next b
    → unify_in n a b s ≡ Some (Ok r) → IsFit r
fit_unified n a b s r h k l e =
    let m : IsMostGeneral s r (MakesEqual a b) = most_general n a b s (Ok r) h.settled e in
    changed_fit s r h (record {
      settled = m.settled;
      next = m.next;
      rigid = m.rigid;
      touched = touches (Below s.next) n a b s (Ok r) h.settled (put_below s a h k) (put_below s b h l) e;
    })

-- ---- new variables

pub fit_nothing : IsFit no_variable
fit_nothing = record {
  settled = record {
    solves = record { types = λ n. refl; marks = λ n k. absurd (cc) };
    leaves = record { alone = λ n k. refl; unmarked = λ n k l. l };
  };
  beyond = λ n k. refl;
  below = λ n k. absurd (omega (arith, k));
  marks = λ n k. absurd (cc);
  rigid = λ n k. absurd (cc);
}

-- flags of variables, and one for the next variable
abbrev flagged : ℕ → Bool → Marks → Marks
flagged next flag q n = cond (eqb n next) flag (q n)

-- a flag is the next variable's, or one that was there
flag_case : {P : Type 0} (next n : ℕ) (flag : Bool) (q : Marks) → flagged next flag q n ≡ true
    → (n ≡ next → flag ≡ true → P) → (q n ≡ true → P) → P
flag_case next n flag q h new old = either_way (eqb n next)
    (λ e. new (eqb-true n next e) (sym (ap (λ z. cond z flag (q n)) e) ∙ h))
    (λ e. old (sym (ap (λ z. cond z flag (q n)) e) ∙ h))

-- flags of variables below the next one stay
flag_stays : (next n : ℕ) (flag : Bool) (q : Marks) → n < next → q n ≡ true → flagged next flag q n ≡ true
flag_stays next n flag q h k = either_way (eqb n next)
    (λ e. let l : n ≡ next = eqb-true n next e in absurd (omega (arith, h, l)))
    (λ e. ap (λ z. cond z flag (q n)) e ∙ k)

flag_below : (next n : ℕ) (flag : Bool) (q : Marks) → ((m : ℕ) → q m ≡ true → m < next)
    → flagged next flag q n ≡ true → n < next + 1
flag_below next n flag q own h = flag_case next n flag q h (λ e _. omega (arith, e))
    (λ e. let l : n < next = own n e in omega (arith, l))

pub fit_variable : (rigid mark : Bool) (s : State) → IsFit s → IsFit (with_variable rigid mark s)
fit_variable rigid mark s h =
    let r : State = with_variable rigid mark s in
    let new : s.stands s.next ≡ Ty.Var s.next = h.beyond s.next (omega arith) in
    let more : (n : ℕ) → s.marks n ≡ true → r.marks n ≡ true =
    λ n k. flag_stays s.next n mark s.marks (h.marks n k) k in
    record {
      settled = record {
        solves = record {
          types = h.settled.solves.types;
          marks = λ n k. flag_case s.next n mark s.marks k
              (λ e _. subst (λ t. admits r.marks t ≡ true) (sym (ap s.stands e ∙ new))
              (subst (λ z. r.marks z ≡ true) e k))
              (λ e. admits_more s.marks r.marks (s.stands n) more (h.settled.solves.marks n e));
        };
        leaves = record {
          alone = λ n k. flag_case s.next n rigid s.rigid k (λ e _. ap s.stands e ∙ new ∙ ap Ty.Var (sym e))
              (h.settled.leaves.alone n);
          unmarked = λ n k l. l;
        };
      };
      beyond = λ n k. h.beyond n (omega (arith, k));
      below = λ n k. either_way (ltb n s.next)
          (λ e m i. let l : m < s.next = h.below n (ltb-true n s.next e) m i in omega (arith, l))
          (λ e. subst (IsBelow (s.next + 1)) (sym (h.beyond n (ltb-false n s.next e)))
          (λ m i. let l : m ≡ n = eqb-true m n i in omega (arith, l, k)));
      marks = λ n k. flag_below s.next n mark s.marks h.marks k;
      rigid = λ n k. flag_below s.next n rigid s.rigid h.rigid k;
    }

fit_variables : (rigid : Bool) (ms : List Bool) (s : State) → IsFit s → IsFit (with_variables rigid ms s)
fit_variables rigid [] s h = h
fit_variables rigid (m ∷ ms) s h = fit_variables rigid ms (with_variable rigid m s) (fit_variable rigid m s h)

-- a choice that solves a state with one variable more solves the state before
pub solves_before : (rigid mark : Bool) (p s : State) → IsFit s → Solves p (with_variable rigid mark s) → Solves p s
solves_before rigid mark p s h k = record {
  types = k.types;
  marks = λ n e. k.marks n (flag_stays s.next n mark s.marks (h.marks n e) e);
}

-- .. and leaves alone what the state before does
pub leaves_before : (rigid mark : Bool) (p s : State) → IsFit s → LeavesRigid p (with_variable rigid mark s)
    → LeavesRigid p s
leaves_before rigid mark p s h k = record {
  alone = λ n e. k.alone n (flag_stays s.next n rigid s.rigid (h.rigid n e) e);
  unmarked = λ n e i. flag_case s.next n mark s.marks
      (k.unmarked n (flag_stays s.next n rigid s.rigid (h.rigid n e) e) i)
      (λ l _. let o : n < s.next = h.rigid n e in absurd (omega (arith, l, o))) (λ l. l);
}

-- ---- instances

next_after : (rigid : Bool) (ms : List Bool) (s : State) → (with_variables rigid ms s).next ≡ s.next + length ms
next_after rigid [] s = omega arith
next_after rigid (m ∷ ms) s =
    let k : (with_variables rigid ms (with_variable rigid m s)).next ≡ s.next + 1 + length ms =
    next_after rigid ms (with_variable rigid m s) in
    let l : s.next + 1 + length ms ≡ s.next + length (m ∷ ms) = omega arith in
    k ∙ l

-- a tree filled with types of such variables is a type of such variables
filled_within : (P : ℕ → Type 0) (b : Substitution) (x : Tree) → ((i : ℕ) → binds i x ≡ true → IsWithin P (b i))
    → ((n : ℕ) → frees n x ≡ true → P n) → IsWithin P (fill b Ty.Var x)
filled_within P b = walk_tree (λ i. IsWithin P (b i)) P (λ x. IsWithin P (fill b Ty.Var x))
    (λ xs. AreWithin P (fill_all b Ty.Var xs))
    (record {
      bound = λ i h. h;
      free = λ n h m e. subst P (sym (eqb-true m n e)) h;
      made = λ c ts h. h;
      none = λ n e. absurd (cc);
      more = λ t ts h hs n e. or_either (occurs n (fill b Ty.Var t)) (occurs_any n (fill_all b Ty.Var ts)) e (h n)
          (hs n);
    })

-- an instance is a type of the state after
pub fit_instance : (σ : TypeScheme) (s : State) → IsFit s → IsSchemeOf s σ
    → IsFit (instance σ s).1 × IsBelow (instance σ s).1.next (instance σ s).0
fit_instance σ s h of =
    let next : (with_variables false σ.marks s).next ≡ s.next + length σ.marks = next_after false σ.marks s in
    let new : Substitution = λ i. Ty.Var (s.next + i) in (
      fit_variables false σ.marks s h,
      subst (λ z. IsBelow z (fill new Ty.Var σ.body)) (sym next)
          (filled_within (Below (s.next + length σ.marks)) new σ.body
          (λ i k n e. let l : n ≡ s.next + i = eqb-true n (s.next + i) e in
          let o : i < length σ.marks = of.closed i k in omega (arith, l, o))
          (λ n k. let l : n < s.next = of.of n k in omega (arith, l))),
    )
