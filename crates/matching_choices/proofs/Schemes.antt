-- Schemes that are more general stay so under a choice.
use Rattle.std.proofs.Common.{◌≡◌, ℕ, ◌+◌, ◌-◌, ◌<◌, ◌≤◌, refl, sym, ap, ap₂, ◌∙◌, subst, arith, true, false, cond}
use Rattle.std.specs.Prelude.{ltb}
use Rattle.std.proofs.lemmas.Bool.{lt-ltb, le-ltb, eq-eqb}
use Rattle.semantic_objects.specs.Trees.{Tree, Trees, TypeScheme, frees, frees_any}
use Rattle.unification.specs.Types.{Ty, Types, Substitution, Marks, State, put, admits}
use Rattle.unification.specs.Generality.{IsOf, MarksOwn}
use Rattle.unification.specs.Instances.{mark_of, fill, fill_all, IsInstance, IsMoreGeneral}
use Rattle.unification.specs.Unification.{Solves}
use Rattle.unification.proofs.Walking.{either_way, or_left, or_right}
use Rattle.unification.proofs.Filling.{put_fill, fill_put, fill_same_on}
use Rattle.unification.proofs.Requiring.{admits_put, admits_more}
use Rattle.static_semantics.specs.EnvironmentsPut.{put_scheme}

-- ---- types that are filled with the same for free variables

mutual
  fill_alike : (b f g : Substitution) (t : Tree) → ((n : ℕ) → frees n t ≡ true → f n ≡ g n) → fill b f t ≡ fill b g t
  fill_alike b f g (Tree.Bound i) h = refl
  fill_alike b f g (Tree.Free n) h = h n (eq-eqb n n refl)
  fill_alike b f g (Tree.Made c ts) h = ap (Ty.Made c) (fills_alike b f g ts h)

  fills_alike : (b f g : Substitution) (ts : Trees) → ((n : ℕ) → frees_any n ts ≡ true → f n ≡ g n)
      → fill_all b f ts ≡ fill_all b g ts
  fills_alike b f g Trees.Nil h = refl
  fills_alike b f g (Trees.Cons t ts) h = ap₂ Types.Cons
      (fill_alike b f g t (λ n e. h n (or_left (frees n t) (frees_any n ts) e)))
      (fills_alike b f g ts (λ n e. h n (or_right (frees n t) (frees_any n ts) e)))

-- ---- variables of a state, and new ones behind them

-- below a number by one function, from it on by another one
abbrev split : {A : Type 0} → ℕ → (ℕ → A) → (ℕ → A) → ℕ → A
split next f g n = cond (ltb n next) (f n) (g (n - next))

split_below : {A : Type 0} (next : ℕ) (f g : ℕ → A) (n : ℕ) → n < next → split next f g n ≡ f n
split_below next f g n h = ap (λ c. cond c (f n) (g (n - next))) (lt-ltb n next h)

split_on : {A : Type 0} (next : ℕ) (f g : ℕ → A) (i : ℕ) → split next f g (next + i) ≡ g i
split_on next f g i =
    ap (λ c. cond c (f (next + i)) (g ((next + i) - next)))
    (le-ltb (next + i) next (let l : next ≤ next + i = omega arith in l))
    ∙ ap g (let e : (next + i) - next ≡ i = omega arith in e)

module _ (s p : State) (solves : Solves p s) (owns : MarksOwn p) (g h : TypeScheme) (of : IsOf s g.body)
    (firm : (n : ℕ) → frees n h.body ≡ false) (q : Marks) (agree : (n : ℕ) → n < p.next → q n ≡ p.marks n)
    (by : Substitution) (admitted : (i : ℕ) → mark_of h.marks i ≡ true → admits q (by i) ≡ true) where
  -- the variables of the state under the choice, and the new ones as they stand for the parts of the instance
  abbrev σ : Substitution
  σ = split s.next p.stands by

  abbrev marks : Marks
  marks = split s.next s.marks (mark_of h.marks)

  abbrev new : Substitution
  new i = Ty.Var (s.next + i)

  marked : (n : ℕ) → p.marks n ≡ true → q n ≡ true
  marked n e = agree n (owns n e) ∙ e

  each : (n : ℕ) → marks n ≡ true → admits q (σ n) ≡ true
  each n = either_way (ltb n s.next)
      (λ e. subst (λ c. cond c (s.marks n) (mark_of h.marks (n - s.next)) ≡ true
      → admits q (cond c (p.stands n) (by (n - s.next))) ≡ true) (sym e)
      (λ m. admits_more p.marks q (p.stands n) marked (solves.marks n m)))
      (λ e. subst (λ c. cond c (s.marks n) (mark_of h.marks (n - s.next)) ≡ true
      → admits q (cond c (p.stands n) (by (n - s.next))) ≡ true) (sym e)
      (λ m. admitted (n - s.next) m))

  generic : IsInstance marks h (fill new Ty.Var h.body)
  generic = record {
    by = new;
    admitted = λ i e. split_on s.next s.marks (mark_of h.marks) i ∙ e;
    is = refl;
  }

  none : (n : ℕ) → frees n h.body ≡ true → σ n ≡ Ty.Var n
  none n e = let k : frees n h.body ≡ false = firm n in absurd (cc)

  filled : put σ (fill new Ty.Var h.body) ≡ fill by Ty.Var h.body
  filled = put_fill σ new Ty.Var h.body
      ∙ fill_same_on (λ i. σ (s.next + i)) by σ h.body (λ i _. split_on s.next p.stands by i)
      ∙ fill_alike by σ Ty.Var h.body none

  instance_of : IsInstance marks g (fill new Ty.Var h.body)
      → IsInstance q (put_scheme p.stands g) (fill by Ty.Var h.body)
  instance_of k = record {
    by = λ i. put σ (k.by i);
    admitted = λ i e. admits_put marks q σ (k.by i) each (k.admitted i e);
    is = fill_put (λ i. put σ (k.by i)) p.stands g.body
        ∙ fill_alike (λ i. put σ (k.by i)) p.stands σ g.body
        (λ n e. sym (split_below s.next p.stands by n (of n e)))
        ∙ sym (put_fill σ k.by Ty.Var g.body) ∙ ap (put σ) k.is ∙ filled;
  }

-- under a choice that solves the state, whatever stands for the variables of the first scheme
pub general_stays : (s p : State) (g h : TypeScheme) → Solves p s → MarksOwn p → IsOf s g.body
    → ((n : ℕ) → frees n h.body ≡ false) → IsMoreGeneral s g h → IsMoreGeneral p (put_scheme p.stands g) h
general_stays s p g h solves owns of firm more q agree t i =
    subst (IsInstance q (put_scheme p.stands g)) i.is
    (instance_of s p solves owns g h of firm q agree i.by i.admitted
    (more (marks s p solves owns g h of firm q agree i.by i.admitted)
    (λ n l. split_below s.next s.marks (mark_of h.marks) n l)
    (fill (new s p solves owns g h of firm q agree i.by i.admitted) Ty.Var h.body)
    (generic s p solves owns g h of firm q agree i.by i.admitted)))
