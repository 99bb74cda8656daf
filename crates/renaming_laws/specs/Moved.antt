-- Two states of which the second has the variables of the first behind so many others: variable `n` of the first is
-- `n + k` of the second. What is below `k` may be anything.
use Rattle.std.specs.Prelude.{◌≡◌, ℕ, ◌+◌, Some, None, Ok, Err}
use Rattle.unification.specs.Types.{Ty, Substitution, State, put}
use Rattle.static_semantics.specs.Inferring.{Progress, Answer}

-- each variable by its later number; with `put`, `put_env` and `put_scope` this moves types, environments and scopes
abbrev pub moved : ℕ → Substitution
moved k n = Ty.Var (n + k)

-- what the second state has from `k` on is what the first has
pub record IsMoved (k : ℕ) (s r : State) : Type 0 where
  pub next : r.next ≡ s.next + k
  pub stands : (n : ℕ) → r.stands (n + k) ≡ put (moved k) (s.stands n)
  pub marks : (n : ℕ) → r.marks (n + k) ≡ s.marks n
  pub rigid : (n : ℕ) → r.rigid (n + k) ≡ s.rigid n

-- .. and the next type name is the same
pub record AreMoved (k : ℕ) (st u : Progress) : Type 0 where
  pub types : IsMoved k st.types u.types
  pub names : u.names ≡ st.names

-- two answers that are nothing, or the same diagnostic, or give what is alike
abbrev pub Both : {A : Type 0} → (A → A → Type 0) → Answer A → Answer A → Type 0
Both R None None = Unit {0}
Both R None (Some y) = ⊥
Both R (Some x) None = ⊥
Both R (Some (Err d)) (Some (Err e)) = e ≡ d
Both R (Some (Err d)) (Some (Ok y)) = ⊥
Both R (Some (Ok x)) (Some (Err e)) = ⊥
Both R (Some (Ok x)) (Some (Ok y)) = R x y

-- what is given the second time is what was given the first time, moved
abbrev pub Moves : {A : Type 0} → (A → A) → A → A → Type 0
Moves f x y = y ≡ f x

-- .. with states of which the second is the first, moved
abbrev pub MovesIn : {A : Type 0} → ℕ → (A → A) → A × Progress → A × Progress → Type 0
MovesIn k f r v = (v.0 ≡ f r.0) × AreMoved k r.1 v.1

abbrev pub MovesBoth : {A B : Type 0} → ℕ → (A → A) → (B → B) → A × B × Progress → A × B × Progress → Type 0
MovesBoth k f g r v = (v.0 ≡ f r.0) × (v.1 ≡ g r.1) × AreMoved k r.2 v.2
