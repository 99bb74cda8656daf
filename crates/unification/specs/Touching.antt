-- What unification leaves as it was: all variables that don't occur in the two types.
use Rattle.std.specs.Prelude.{◌≡◌, ℕ, Result, Ok, Err, true, ◌||◌}
use Rattle.unification.specs.Types.{Ty, Types, Substitution, State, put, occurs, occurs_any}
use Rattle.unification.specs.Unification.{Fault}

-- each variable of a type is such a one
abbrev pub IsWithin : (ℕ → Type 0) → Ty → Type 0
IsWithin P t = (n : ℕ) → occurs n t ≡ true → P n

abbrev pub AreWithin : (ℕ → Type 0) → Types → Type 0
AreWithin P ts = (n : ℕ) → occurs_any n ts ≡ true → P n

-- from `s` to `r` types were put in for such variables alone, these types hold such variables alone, and such alone
-- were marked
pub record Touches (P : ℕ → Type 0) (s r : State) : Type 0 where
  pub change : Substitution
  pub stands : (n : ℕ) → r.stands n ≡ put change (s.stands n)
  pub outside : (n : ℕ) → (P n → ⊥) → change n ≡ Ty.Var n
  pub inside : (n : ℕ) → P n → IsWithin P (change n)
  pub marks : (n : ℕ) → (P n → ⊥) → r.marks n ≡ true → s.marks n ≡ true

abbrev pub TouchesIn : (ℕ → Type 0) → State → Result State Fault → Type 0
TouchesIn P s (Ok r) = Touches P s r
TouchesIn P s (Err e) = Unit {0}

-- a variable of one of two types as they stand
abbrev pub OfTwo : Ty → Ty → State → ℕ → Type 0
OfTwo a b s n = (occurs n (put s.stands a) || occurs n (put s.stands b)) ≡ true
