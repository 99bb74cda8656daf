-- The laws, as the public function of this crate states them.
use Rattle.std.specs.Prelude.{◌≡◌, ℕ, List, [], Bool}
use Rattle.semantic_objects.specs.Environments.{Top, empty_top}
use Rattle.unification.specs.Fitting.{IsFit}
use Rattle.type_nodes.specs.Tables.{Table, state}
use Rattle.static_semantics.specs.Inferring.{Progress}
use Rattle.inference_laws.specs.Nodes.{EnvOf, StateOf, below_number}
use Rattle.unit_semantics.specs.Promises.{IsClosedEnv, IsClosedTop}
use Rattle.unit_laws.specs.Parts.{TopOf}
use Rattle.table_laws.specs.Rising.{RisingEnv, RisingTop}
use Rattle.unit_derivations.specs.Promises.{IsGiven}
use Rattle.initial_basis.specs.Basis.{basis_env}

-- what may be given in front of the initial basis: the unit's names in it, and in what stands for type variables, have
-- numbers below the next one, its tables rise, and no type variable stands in it
pub record MayBeGiven (home : List ℕ) (given : Top) (st : Progress) : Type 0 where
  pub below : TopOf (below_number home st.names) given
  pub state : StateOf (below_number home st.names) st.types
  pub rises : RisingTop given
  pub closed : IsClosedTop given

-- a state of a table, with the number of the next type name
abbrev pub with_table : Table → ℕ → Progress
with_table table names = record { types = state table; names = names }

-- the tables of the initial basis rise, no type variable stands in it, and it has no names of a unit; so over it and
-- what may be given all holds that is asked where a unit begins. Where nothing stands for a variable of the table, the
-- empty top may be given
pub record UnitsBeginWithTheBasis : Type 0 where
  pub rises : (nobasis : Bool) → RisingEnv (basis_env nobasis)
  pub closed : (nobasis : Bool) → IsClosedEnv (basis_env nobasis)
  pub below : (home : List ℕ) (number : ℕ) (nobasis : Bool) → EnvOf (below_number home number) (basis_env nobasis)
  pub given : (home : List ℕ) (nobasis : Bool) (given : Top) (st : Progress) → MayBeGiven home given st
      → IsFit st.types → IsGiven home (basis_env nobasis) given st
  pub nothing : (home : List ℕ) (table : Table) (number : ℕ) → table.trail ≡ []
      → MayBeGiven home empty_top (with_table table number)
