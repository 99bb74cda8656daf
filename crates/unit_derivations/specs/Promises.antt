-- The law, as the public function of this crate states it.
use Rattle.std.specs.Prelude.{ℕ, List, Bool, true}
use Rattle.semantic_objects.specs.Environments.{Env, Top}
use Rattle.unification.specs.Fitting.{IsFit}
use Rattle.static_semantics.specs.Inferring.{Progress}
use Rattle.static_semantics.specs.Holding.{Given, AllItems}
use Rattle.unit_semantics.specs.UnitPhrases.{TopPhrase, read_unit}
use Rattle.unit_semantics.specs.UnitInference.{infer_unit}
use Rattle.unit_semantics.specs.ElaboratesUnits.{ElaboratesUnit}
use Rattle.unit_semantics.specs.Promises.{IsClosedEnv, IsClosedTop}
use Rattle.unit_laws.specs.Promises.{IsBelowNext}
use Rattle.table_laws.specs.Rising.{RisingEnv, RisingTop}
use Rattle.elaboration_laws.specs.Declaring.{BindsValues}
use Rattle.unit_derivations.specs.Declaring.{TopHas}

-- of names nothing is asked
abbrev pub every : List ℕ → Bool
every name = true

-- what is asked of what a unit is given: the unit's names that are there have numbers below the next one, tables rise,
-- and no variable stands in anything
pub record IsGiven (home : List ℕ) (basis : Env) (given : Top) (st : Progress) : Type 0 where
  pub below : IsBelowNext every home basis given st
  pub basis_rises : RisingEnv basis
  pub given_rises : RisingTop given
  pub basis_closed : IsClosedEnv basis
  pub given_closed : IsClosedTop given
  pub fit : IsFit st.types

-- what inference gives of a unit the rules give, from the number of type names at the start to the one at the end, under
-- what the state at the end puts for variables. The `rec` bindings of each `val` have functions for their right sides
pub record UnitsHaveDerivations : Type 0 where
  pub all : (depth : ℕ) (home : List ℕ) (basis : Env) (given : Top) (sealing : Bool) (tops : List TopPhrase)
      (st : Progress) → AllItems (TopHas BindsValues) (read_unit sealing tops) → IsGiven home basis given st
      → Given (λ r. ElaboratesUnit r.1.types home basis given st.names (read_unit sealing tops) r.0 r.1.names)
      (infer_unit depth home basis given sealing tops st)
