-- How states grow while a phrase is inferred: which variables are touched, and which stand in what is given.
use Rattle.std.specs.Prelude.{◌≡◌, ℕ, ◌<◌, ◌≤◌}
use Rattle.semantic_objects.specs.declared.entry.TypeFn.{TypeFn}
use Rattle.semantic_objects.specs.Trees.{TypeScheme, IsScheme}
use Rattle.semantic_objects.specs.Environments.{Env}
use Rattle.unification.specs.Types.{Ty, State, put}
use Rattle.unification.specs.Touching.{IsWithin, Touches}
use Rattle.unification.specs.Fitting.{IsBelow, IsFit}
use Rattle.static_semantics.specs.Inferring.{Progress, Scope, seen}
use Rattle.static_semantics.specs.Holding.{AllRows, EnvHas}

-- a type of a state, in which, as it is known there, such variables alone stand
pub record TyIn (P : ℕ → Type 0) (s : State) (t : Ty) : Type 0 where
  pub below : IsBelow s.next t
  pub within : IsWithin P (put s.stands t)

-- a scheme likewise
pub record SchemeIn (P : ℕ → Type 0) (s : State) (σ : TypeScheme) : Type 0 where
  pub closed : IsScheme σ
  pub body : TyIn P s (seen Ty.Var σ.body)

-- a type function likewise
abbrev pub FunctionIn : (ℕ → Type 0) → State → TypeFn → Type 0
FunctionIn P s function = TyIn P s (seen Ty.Var function.body)

abbrev pub EnvIn : (ℕ → Type 0) → State → Env → Type 0
EnvIn P s env = EnvHas (SchemeIn P s) (FunctionIn P s) env

-- a scope likewise, with what its written type variables stand for
pub record ScopeIn (P : ℕ → Type 0) (s : State) (sc : Scope) : Type 0 where
  pub env : EnvIn P s sc.env
  pub written : AllRows (TyIn P s) sc.written

-- new variables are such ones
abbrev pub HasNew : (ℕ → Type 0) → State → Type 0
HasNew P s = (n : ℕ) → s.next ≤ n → P n

-- from one state to a later one types were put in for such variables alone, these hold such alone, and such alone were
-- marked; variables that were there are rigid as before; numbers of type names only rise
pub record Grows (P : ℕ → Type 0) (st u : Progress) : Type 0 where
  pub fit : IsFit u.types
  pub later : st.types.next ≤ u.types.next
  pub touches : Touches P st.types u.types
  pub rigid : (n : ℕ) → n < st.types.next → u.types.rigid n ≡ st.types.rigid n
  pub names : st.names ≤ u.names

-- what is asked of the state and the scope in which a phrase is inferred
pub record IsReady (P : ℕ → Type 0) (sc : Scope) (st : Progress) : Type 0 where
  pub fit : IsFit st.types
  pub new : HasNew P st.types
  pub scope : ScopeIn P st.types sc
