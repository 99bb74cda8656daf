-- Lists that have each number below a bound: they are as long as it, and have each once where they are no longer.
use Rattle.std.proofs.Common.{◌≡◌, ℕ, zero, suc, ◌+◌, ◌<◌, ◌≤◌, ◌==◌, Bool, true, false, not, cond, List, [], ◌∷◌, ◌++◌, append_assoc, length, length-append, refl, sym, ap, subst, ◌∙◌, inl, inr, ◌⊎◌, arith, eqb-true}
use borrow.Author.Tests.{eqb-false, ne_eqb, eq-eqb}
use Rattle.std.specs.Prelude.{filter}

-- an element of a list
abbrev pub Member : {X : Type 0} → List X → X → Type 0
Member [] x = ⊥
Member (y ∷ ys) x = (y ≡ x) ⊎ Member ys x

-- all numbers but one
abbrev pub without : ℕ → List ℕ → List ℕ
without m xs = filter (λ x. not (x == m)) xs

kept_by : (m x u : ℕ) (xs : List ℕ) (b : Bool) → (x == m) ≡ b → (u ≡ m → ⊥) → (Member xs u → Member (without m xs) u)
    → (x ≡ u) ⊎ Member xs u → Member (cond (not b) (x ∷ without m xs) (without m xs)) u
kept_by m x u xs true is other rest (inl same) = absurd (other (sym same ∙ eqb-true x m is))
kept_by m x u xs true is other rest (inr more) = rest more
kept_by m x u xs false is other rest (inl same) = inl same
kept_by m x u xs false is other rest (inr more) = inr (rest more)

kept : (m u : ℕ) (xs : List ℕ) → (u ≡ m → ⊥) → Member xs u → Member (without m xs) u
kept m u [] other h = absurd h
kept m u (x ∷ xs) other h = kept_by m x u xs (x == m) refl other (kept m u xs other) h

fewer_by : (m x : ℕ) (xs : List ℕ) (b : Bool) → length (without m xs) ≤ length xs
    → length (cond (not b) (x ∷ without m xs) (without m xs)) ≤ length (x ∷ xs)
fewer_by m x xs true rest = omega (arith, rest)
fewer_by m x xs false rest = omega (arith, rest)

fewer : (m : ℕ) (xs : List ℕ) → length (without m xs) ≤ length xs
fewer m [] = omega arith
fewer m (x ∷ xs) = fewer_by m x xs (x == m) (fewer m xs)

less_by : (m x : ℕ) (xs : List ℕ) (b : Bool) → (x == m) ≡ b → length (without m xs) ≤ length xs
    → (Member xs m → length (without m xs) + 1 ≤ length xs) → (x ≡ m) ⊎ Member xs m
    → length (cond (not b) (x ∷ without m xs) (without m xs)) + 1 ≤ length (x ∷ xs)
less_by m x xs true is all rest h = omega (arith, all)
less_by m x xs false is all rest (inl same) = absurd (eqb-false x m is same)
less_by m x xs false is all rest (inr more) = let r = rest more in omega (arith, r)

less : (m : ℕ) (xs : List ℕ) → Member xs m → length (without m xs) + 1 ≤ length xs
less m [] h = absurd h
less m (x ∷ xs) h = less_by m x xs (x == m) refl (fewer m xs) (less m xs) h

-- a list that has each number below a bound is as long as that
pub as_long : (n : ℕ) (xs : List ℕ) → ((u : ℕ) → u < n → Member xs u) → n ≤ length xs
as_long zero xs all = omega arith
as_long (suc n) xs all =
    let rest = as_long n (without n xs)
    (λ u below. let other : (u ≡ n → ⊥) = λ same. omega (arith, same, below) in
    kept n u xs other (all u (omega arith))) in
    let gone = less n xs (all n (omega arith)) in
    omega (arith, rest, gone)

-- no element comes again
abbrev pub Differ : List ℕ → Type 0
Differ [] = Unit {0}
Differ (x ∷ xs) = (Member xs x → ⊥) × Differ xs

skip : (before after : List ℕ) (x u : ℕ) → Member after x → Member (before ++ x ∷ after) u → Member (before ++ after) u
skip [] after x u again (inl same) = subst (Member after) same again
skip [] after x u again (inr more) = more
skip (y ∷ before) after x u again (inl same) = inl same
skip (y ∷ before) after x u again (inr more) = inr (skip before after x u again more)

differ_from : (n : ℕ) (before xs : List ℕ) → ((u : ℕ) → u < n → Member (before ++ xs) u) → length (before ++ xs) ≤ n
    → Differ xs
differ_from n before [] all short = tt
differ_from n before (x ∷ xs) all short = (
  λ again.
      let long = as_long n (before ++ xs) (λ u below. skip before xs x u again (all u below)) in
      omega (arith, long, short, length-append before xs, length-append before (x ∷ xs)),
  differ_from n (before ++ x ∷ []) xs
      (λ u below. subst (λ l. Member l u) (sym (append_assoc before (x ∷ []) xs)) (all u below))
      (subst (λ l. length l ≤ n) (sym (append_assoc before (x ∷ []) xs)) short),
)

-- a list of so many numbers that has each number below this one has each once
pub all_differ : (n : ℕ) (xs : List ℕ) → ((u : ℕ) → u < n → Member xs u) → length xs ≤ n → Differ xs
all_differ n xs all short = differ_from n [] xs all short
