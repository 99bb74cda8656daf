-- Types that are put in for variables.
use Rattle.std.proofs.Common.{◌≡◌, ℕ, ◌+◌, ◌≤◌, refl, sym, ap, ◌∙◌, subst, true, false, cond, arith}
use Rattle.std.proofs.lemmas.Bool.{eq-eqb, eqb-true}
use Rattle.std.specs.Prelude.{eqb}
use Rattle.semantic_objects.specs.declared.symbol.Symbol.{Symbol}
use Rattle.unification.specs.Types.{Ty, Types, Substitution, State, put, put_all, occurs, occurs_any, size, size_all}
use Rattle.unification.specs.Unification.{single, Solves}
use Rattle.unification.proofs.Walking.{Anything, Walk, walk_all, Goes, alike, not_both}
pub use Rattle.unification.proofs.Walking.{either_way, or_left, or_right, or_either, or_false_left, or_false_right, and_left, and_right, and_both}

-- a map of types that keeps symbols
abbrev IsMap : (Ty → Ty) → (Types → Types) → Type 0
IsMap f fs = Goes Ty.Made Types.Nil Types.Cons f fs

puts : (s : Substitution) → IsMap (put s) (put_all s)
puts s = record { at_made = λ c ts. refl; at_none = refl; at_more = λ t ts. refl }

puts_twice : (p s : Substitution) → IsMap (λ t. put p (put s t)) (λ ts. put_all p (put_all s ts))
puts_twice p s = record { at_made = λ c ts. refl; at_none = refl; at_more = λ t ts. refl }

leaves_all : IsMap (λ t. t) (λ ts. ts)
leaves_all = record { at_made = λ c ts. refl; at_none = refl; at_more = λ t ts. refl }

-- putting in twice is putting in once
pub put-put : (p s : Substitution) (t : Ty) → put p (put s t) ≡ put (λ n. put p (s n)) t
put-put p s t = alike Ty.Made Types.Nil Types.Cons (λ u. put p (put s u)) (put (λ n. put p (s n)))
    (λ us. put_all p (put_all s us)) (put_all (λ n. put p (s n))) (puts_twice p s) (puts (λ n. put p (s n))) t
    (λ n _. refl)

-- what is put in for variables that don't occur changes nothing
pub put_alike : (p q : Substitution) (t : Ty) → ((n : ℕ) → occurs n t ≡ true → p n ≡ q n) → put p t ≡ put q t
put_alike p q t h =
    alike Ty.Made Types.Nil Types.Cons (put p) (put q) (put_all p) (put_all q) (puts p) (puts q) t h

pub put_same : (p q : Substitution) (t : Ty) → ((n : ℕ) → p n ≡ q n) → put p t ≡ put q t
put_same p q t h = put_alike p q t (λ n _. h n)

-- a type whose variables stand for themselves stays
pub put_still : (s : Substitution) (t : Ty) → ((n : ℕ) → occurs n t ≡ true → s n ≡ Ty.Var n) → put s t ≡ t
put_still s t h =
    alike Ty.Made Types.Nil Types.Cons (put s) (λ u. u) (put_all s) (λ us. us) (puts s) leaves_all t h

pub put_free : (t : Ty) → put Ty.Var t ≡ t
put_free t = put_still Ty.Var t (λ n _. refl)

pub put_solved : (p s : State) (t : Ty) → Solves p s → put p.stands (put s.stands t) ≡ put p.stands t
put_solved p s t h =
    put-put p.stands s.stands t ∙ put_same (λ n. put p.stands (s.stands n)) p.stands t h.types

-- ---- a type for one variable

pub one_same : (v : ℕ) (t : Ty) → single v t v ≡ t
one_same v t = ap (λ b. cond b t (Ty.Var v)) (eq-eqb v v refl)

pub one_other : (v n : ℕ) (t : Ty) → eqb v n ≡ false → single v t n ≡ Ty.Var n
one_other v n t h = ap (λ b. cond b t (Ty.Var n)) h

-- what holds of the type and of each other variable holds of what is put in
pub one_of : (P : ℕ → Ty → Type 0) (v : ℕ) (t : Ty) → P v t → ((n : ℕ) → eqb v n ≡ false → P n (Ty.Var n))
    → (n : ℕ) → P n (single v t n)
one_of P v t this others n = either_way (eqb v n)
    (λ e. subst (λ m. P m (single v t m)) (eqb-true v n e) (subst (P v) (sym (one_same v t)) this))
    (λ e. subst (P n) (sym (one_other v n t e)) (others n e))

pub one_absent : (v : ℕ) (u t : Ty) → occurs v t ≡ false → put (single v u) t ≡ t
one_absent v u t h = put_still (single v u) t (λ n k. one_other v n u (either_way (eqb v n)
    (λ e. absurd (not_both (occurs v t) h (subst (λ m. occurs m t ≡ true) (sym (eqb-true v n e)) k))) (λ e. e)))

pub one_solved : (p : Substitution) (v : ℕ) (t : Ty) → p v ≡ put p t → (n : ℕ) → put p (single v t n) ≡ p n
one_solved p v t h = one_of (λ n u. put p u ≡ p n) v t (sym h) (λ n _. refl)

-- for a choice that makes the variable and the type one, putting it in changes nothing
pub put_one : (p : Substitution) (v : ℕ) (t : Ty) → p v ≡ put p t → (u : Ty) → put p (put (single v t) u) ≡ put p u
put_one p v t h u =
    put-put p (single v t) u ∙ put_same (λ n. put p (single v t n)) p u (one_solved p v t h)

-- ---- sizes

-- what stands for a variable of a type isn't larger than the type, with everything put in
no_larger : (p : Substitution) (v : ℕ) → Walk Anything (λ t. occurs v t ≡ true → size (p v) ≤ size (put p t))
    (λ ts. occurs_any v ts ≡ true → size (p v) ≤ size_all (put_all p ts))
no_larger p v = record {
  variable = λ n _ h. subst (λ m. size (p v) ≤ size (p m)) (eqb-true v n h) (omega arith);
  made = λ c ts k h. let l : size (p v) ≤ size_all (put_all p ts) = k h in omega (arith, l);
  none = λ h. absurd (cc);
  more = λ t ts k ks h. or_either (occurs v t) (occurs_any v ts) h
      (λ e. let l : size (p v) ≤ size (put p t) = k e in omega (arith, l))
      (λ e. let l : size (p v) ≤ size_all (put_all p ts) = ks e in omega (arith, l));
}

-- a type isn't a part of itself
pub circular : (p : Substitution) (v : ℕ) (c : Symbol) (ts : Types) → occurs_any v ts ≡ true
    → p v ≡ put p (Ty.Made c ts) → ⊥
circular p v c ts h e =
    let k : size (p v) ≤ size_all (put_all p ts) =
    walk_all Anything (λ t. occurs v t ≡ true → size (p v) ≤ size (put p t))
    (λ us. occurs_any v us ≡ true → size (p v) ≤ size_all (put_all p us)) (no_larger p v) ts (λ n _. tt) h in
    let l : size (p v) ≡ size_all (put_all p ts) + 1 = ap size e in
    omega (arith, k, l)
