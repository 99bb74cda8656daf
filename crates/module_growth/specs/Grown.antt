-- What is asked of what is around a structure expression, and what is made of it.
use Rattle.std.specs.Prelude.{ℕ, List, Bool}
use Rattle.semantic_objects.specs.Environments.{Env, Top}
use Rattle.unification.specs.Fitting.{IsFit}
use Rattle.static_semantics.specs.Inferring.{Progress}
use Rattle.static_semantics.specs.Holding.{AllRows}
use Rattle.static_semantics.specs.Growing.{EnvIn, Grows}
use Rattle.inference_laws.specs.Nodes.{IsReadyFor}
use Rattle.inference_laws.specs.Alike.{FirmEnv}
use Rattle.inference_laws.specs.Promises.{Any}
use Rattle.unit_semantics.specs.Promises.{IsClosedSignature, IsClosedFunctor}
use Rattle.unit_laws.specs.Parts.{IsOfTop}
use Rattle.table_laws.specs.Rising.{RisingTop}

-- the unit's type names that are there have numbers below the next one; tables rise; no variable of the table stands in
-- the types of the environment, and those in its values are the state's; none stands in signatures and functors that
-- have names
pub record IsInside (good : List ℕ → Bool) (home : List ℕ) (top : Top) (st : Progress) : Type 0 where
  pub ready : IsReadyFor home (IsOfTop good top st) st.names
  pub rises : RisingTop top
  pub firm : FirmEnv top.env
  pub env : EnvIn Any st.types top.env
  pub signatures : AllRows IsClosedSignature top.signatures
  pub functors : AllRows IsClosedFunctor top.functors
  pub fit : IsFit st.types

-- the state grew, and the environment that was made is one of it, in whose types no variable of the table stands
pub record IsGrown (st : Progress) (r : Env × Progress) : Type 0 where
  pub grows : Grows Any st r.1
  pub env : EnvIn Any r.1.types r.0
  pub firm : FirmEnv r.0
