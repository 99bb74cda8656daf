-- States as they come about: no variable stands anywhere that wasn't made.
use Rattle.std.specs.Prelude.{◌≡◌, ℕ, ◌<◌, ◌≤◌, true, false}
use Rattle.semantic_objects.specs.Trees.{TypeScheme, IsScheme}
use Rattle.unification.specs.Types.{Ty, State}
use Rattle.unification.specs.Unification.{IsSettled}
use Rattle.unification.specs.Touching.{IsWithin}
use Rattle.unification.specs.Generality.{IsOf}

abbrev pub Below : ℕ → ℕ → Type 0
Below k n = n < k

-- all variables of a type are below a number
abbrev pub IsBelow : ℕ → Ty → Type 0
IsBelow k t = IsWithin (Below k) t

-- a settled state whose variables are those below `next`: no other stands for anything else, is marked or rigid, or
-- stands in what stands for one of these
pub record IsFit (s : State) : Type 0 where
  pub settled : IsSettled s
  pub beyond : (n : ℕ) → s.next ≤ n → s.stands n ≡ Ty.Var n
  pub below : (n : ℕ) → n < s.next → IsBelow s.next (s.stands n)
  pub marks : (n : ℕ) → s.marks n ≡ true → n < s.next
  pub rigid : (n : ℕ) → s.rigid n ≡ true → n < s.next

-- before any variable was made
abbrev pub no_variable : State
no_variable = record { next = 0; stands = Ty.Var; marks = λ n. false; rigid = λ n. false }

-- a scheme of a state: it has marks for its variables, and those of the table are the state's
pub record IsSchemeOf (s : State) (σ : TypeScheme) : Type 0 where
  pub closed : IsScheme σ
  pub of : IsOf s σ.body
