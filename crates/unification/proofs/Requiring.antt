-- What it takes that a type admits equality.
use Rattle.std.proofs.Common.{◌≡◌, ℕ, refl, sym, ap, ◌∙◌, subst, Option, Some, None, Bool, true, false}
use Rattle.std.proofs.lemmas.Bool.{eq-eqb, eqb-true}
use Rattle.std.specs.Prelude.{eqb}
use Rattle.semantic_objects.specs.declared.symbol.Symbol.{Symbol}
use Rattle.unification.specs.declared.equality.Equality.{Equality}
use Rattle.unification.specs.declared.equality.Equality.TheVariants as equality
use Rattle.unification.specs.Types.{Ty, Types, Substitution, Marks, State, put, put_all, equality_of, where_parts, admits, admits_all, and_then, required_by, require_variable, require, require_all}
use Rattle.unification.proofs.Walking.{Anything, walk, and_left, and_right, and_both, or_left, or_right, or_either, not_both}
use Rattle.unification.proofs.Putting.{put_free}

-- a choice gives equality types to these variables
abbrev pub Meets : Marks → State → Type 0
Meets q p = (n : ℕ) → q n ≡ true → admits p.marks (p.stands n) ≡ true

-- a choice leaves rigid variables alone, and doesn't mark them
pub record Spares (rigid q : Marks) (p : State) : Type 0 where
  pub alone : (n : ℕ) → rigid n ≡ true → p.stands n ≡ Ty.Var n
  pub unmarked : (n : ℕ) → rigid n ≡ true → p.marks n ≡ true → q n ≡ true

-- the marks `r` are those of `q` and those that are needed so that `D` holds
pub record Enough (D : State → Type 0) (rigid q r : Marks) : Type 0 where
  pub more : (n : ℕ) → q n ≡ true → r n ≡ true
  pub spared : (n : ℕ) → rigid n ≡ true → r n ≡ true → q n ≡ true
  pub needed : (p : State) → Meets q p → D p → Meets r p
  pub given : (p : State) → Meets r p → D p

-- .. or there are none
abbrev pub Demanded : (State → Type 0) → Marks → Marks → Option Marks → Type 0
Demanded D rigid q (Some r) = Enough D rigid q r
Demanded D rigid q None = (p : State) → Spares rigid q p → D p → ⊥

-- a choice makes a type an equality type
abbrev pub Admits : Ty → State → Type 0
Admits t p = admits p.marks (put p.stands t) ≡ true

abbrev AdmitsAll : Types → State → Type 0
AdmitsAll ts p = admits_all p.marks (put_all p.stands ts) ≡ true

-- ---- demands of any kind

pub held : (D : State → Type 0) (rigid q : Marks) → ((p : State) → Meets q p → D p) → Enough D rigid q q
held D rigid q h = record {
  more = λ n k. k;
  spared = λ n i k. k;
  needed = λ p m _. m;
  given = h;
}

pub same_demand : (D E : State → Type 0) (rigid q : Marks) (o : Option Marks) → ((p : State) → D p → E p)
    → ((p : State) → E p → D p) → Demanded D rigid q o → Demanded E rigid q o
same_demand D E rigid q None there back h = λ p l e. h p l (back p e)
same_demand D E rigid q (Some r) there back h = record {
  more = h.more;
  spared = h.spared;
  needed = λ p m e. h.needed p m (back p e);
  given = λ p m. there p (h.given p m);
}

-- one demand, and another one with the marks that the first left
second_demand : (D E : State → Type 0) (rigid q r : Marks) (o : Option Marks) → Enough D rigid q r
    → Demanded E rigid r o → Demanded (λ p. D p × E p) rigid q o
second_demand D E rigid q r None first h = λ p l both.
    h p (record { alone = l.alone; unmarked = λ n i k. first.more n (l.unmarked n i k) }) both.1
second_demand D E rigid q r (Some u) first h = record {
  more = λ n k. h.more n (first.more n k);
  spared = λ n i k. first.spared n i (h.spared n i k);
  needed = λ p m both. h.needed p (first.needed p m both.0) both.1;
  given = λ p m. (first.given p (λ n k. m n (h.more n k)), h.given p m);
}

demand_both : (D E : State → Type 0) (rigid q : Marks) (o : Option Marks) (k : Marks → Option Marks)
    → Demanded D rigid q o → ((r : Marks) → Demanded E rigid r (k r)) → Demanded (λ p. D p × E p) rigid q (and_then o k)
demand_both D E rigid q None k first h = λ p l both. first p l both.0
demand_both D E rigid q (Some r) k first h = second_demand D E rigid q r (k r) first (h r)

-- ---- the demands of types

demand_variable : (n : ℕ) (rigid q : Marks) (a b : Bool) → rigid n ≡ a → q n ≡ b
    → Demanded (Admits (Ty.Var n)) rigid q (require_variable a b n q)
demand_variable n rigid q true true i k = held (Admits (Ty.Var n)) rigid q (λ p m. m n k)
demand_variable n rigid q true false i k = λ p l e.
    not_both (q n) k (l.unmarked n i (sym (ap (admits p.marks) (l.alone n i)) ∙ e))
demand_variable n rigid q false b i k = record {
  more = λ m e. or_right (eqb n m) (q m) e;
  spared = λ m j e. or_either (eqb n m) (q m) e
      (λ same. absurd (not_both (rigid n) i (subst (λ z. rigid z ≡ true) (sym (eqb-true n m same)) j))) (λ old. old);
  needed = λ p meets e m j. or_either (eqb n m) (q m) j
      (λ same. subst (λ z. Admits (Ty.Var z) p) (eqb-true n m same) e) (λ old. meets m old);
  given = λ p meets. meets n (or_left (eqb n n) (q n) (eq-eqb n n refl));
}

-- whether a symbol asks for its parts, as a fact on each choice
by_kind : (k : Equality) (c : Symbol) (ts : Types) → equality_of c ≡ k → (p : State)
    → admits p.marks (put p.stands (Ty.Made c ts)) ≡ where_parts k (admits_all p.marks (put_all p.stands ts))
by_kind k c ts e p = ap (λ z. where_parts z (admits_all p.marks (put_all p.stands ts))) e

demand_made : (k : Equality) (c : Symbol) (ts : Types) (rigid q : Marks) (o : Option Marks) → equality_of c ≡ k
    → Demanded (AdmitsAll ts) rigid q o → Demanded (Admits (Ty.Made c ts)) rigid q (required_by k q o)
demand_made equality.Never c ts rigid q o e h = λ p l j. not_both false refl (sym (by_kind equality.Never c ts e p) ∙ j)
demand_made equality.Always c ts rigid q o e h =
    held (Admits (Ty.Made c ts)) rigid q (λ p m. by_kind equality.Always c ts e p)
demand_made equality.ByParts c ts rigid q o e h =
    same_demand (AdmitsAll ts) (Admits (Ty.Made c ts)) rigid q o (λ p j. by_kind equality.ByParts c ts e p ∙ j)
    (λ p j. sym (by_kind equality.ByParts c ts e p) ∙ j) h

demand_more : (t : Ty) (ts : Types) (rigid q : Marks) → Demanded (Admits t) rigid q (require rigid t q)
    → ((r : Marks) → Demanded (AdmitsAll ts) rigid r (require_all rigid ts r))
    → Demanded (AdmitsAll (Types.Cons t ts)) rigid q (require_all rigid (Types.Cons t ts) q)
demand_more t ts rigid q first rest =
    same_demand (λ p. Admits t p × AdmitsAll ts p) (AdmitsAll (Types.Cons t ts)) rigid q
    (and_then (require rigid t q) (require_all rigid ts))
    (λ p e. and_both (admits p.marks (put p.stands t)) (admits_all p.marks (put_all p.stands ts)) e.0 e.1)
    (λ p e. (
      and_left (admits p.marks (put p.stands t)) (admits_all p.marks (put_all p.stands ts)) e,
      and_right (admits p.marks (put p.stands t)) (admits_all p.marks (put_all p.stands ts)) e,
    ))
    (demand_both (Admits t) (AdmitsAll ts) rigid q (require rigid t q) (require_all rigid ts) first rest)

-- `require` gives the marks that are needed, and none where there are none
pub requires : (t : Ty) (rigid q : Marks) → Demanded (Admits t) rigid q (require rigid t q)
requires t rigid = walk Anything (λ u. (q : Marks) → Demanded (Admits u) rigid q (require rigid u q))
    (λ us. (q : Marks) → Demanded (AdmitsAll us) rigid q (require_all rigid us q))
    (record {
      variable = λ n _ q. demand_variable n rigid q (rigid n) (q n) refl refl;
      made = λ c ts h q. demand_made (equality_of c) c ts rigid q (require_all rigid ts q) refl (h q);
      none = λ q. held (AdmitsAll Types.Nil) rigid q (λ p _. refl);
      more = λ t ts h hs q. demand_more t ts rigid q (h q) hs;
    })
    t (λ n _. tt)

-- ---- types whose variables are marked

pub more_parts : (k : Equality) (x y : Bool) → (x ≡ true → y ≡ true) → where_parts k x ≡ true → where_parts k y ≡ true
more_parts equality.Never x y h e = e
more_parts equality.Always x y h e = refl
more_parts equality.ByParts x y h e = h e

-- an equality type in whose marked variables equality types are put is one
pub admits_put : (q r : Marks) (f : Substitution) (t : Ty) → ((n : ℕ) → q n ≡ true → admits r (f n) ≡ true)
    → admits q t ≡ true → admits r (put f t) ≡ true
admits_put q r f t h = walk Anything (λ u. admits q u ≡ true → admits r (put f u) ≡ true)
    (λ us. admits_all q us ≡ true → admits_all r (put_all f us) ≡ true)
    (record {
      variable = λ n _ e. h n e;
      made = λ c ts k e. more_parts (equality_of c) (admits_all q ts) (admits_all r (put_all f ts)) k e;
      none = λ e. refl;
      more = λ u us k ks e. and_both (admits r (put f u)) (admits_all r (put_all f us))
          (k (and_left (admits q u) (admits_all q us) e)) (ks (and_right (admits q u) (admits_all q us) e));
    })
    t (λ n _. tt)

pub admits_more : (q r : Marks) (t : Ty) → ((n : ℕ) → q n ≡ true → r n ≡ true) → admits q t ≡ true → admits r t ≡ true
admits_more q r t h e = subst (λ u. admits r u ≡ true) (put_free t) (admits_put q r Ty.Var t h e)
