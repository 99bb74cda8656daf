-- The law, as the public function of this crate states it.
use Rattle.std.specs.Prelude.{◌≡◌, ℕ, List, length, Bool, true, false}
use Rattle.semantic_objects.specs.declared.name.TyName.{TyName}
use Rattle.semantic_objects.specs.Environments.{Env, Top}
use Rattle.realisation.specs.Canonical.{is_bound_name}
use Rattle.static_semantics.specs.Inferring.{Progress}
use Rattle.static_semantics.specs.Holding.{Given, AllItems}
use Rattle.inference_laws.specs.Naming.{NamedEnv}
use Rattle.inference_laws.specs.WellFormed.{well_formed, AreKnown}
use Rattle.unit_semantics.specs.Promises.{IsClosedEnv, IsClosedTop}
use Rattle.unit_semantics.specs.UnitPhrases.{TopPhrase}
use Rattle.unit_semantics.specs.UnitInference.{infer_unit}
use Rattle.unit_laws.specs.Naming.{TopNamed, NamedTop}
use Rattle.unit_laws.specs.Spelling.{TopSpelt}
use Rattle.unit_laws.specs.Promises.{IsOfUnit}
use Rattle.table_laws.specs.Rising.{RisingEnv, RisingTop}
use Rattle.interface_format.specs.Rules.{IsNumber, IsName, HasText}
use Rattle.canonical_interfaces.specs.Fair.{is_other, IsFairTop}
use Rattle.fair_units.specs.Counts.{CountedTop}

-- names that an interface can have are asked for, and the unit's name is none too long
pub record CanBeWritten (good : List ℕ → Bool) (home : List ℕ) : Type 0 where
  pub names : (name : List ℕ) → good name ≡ true → IsName name
  pub short : IsNumber (length home)

-- type names that are known: none is a bound one, there is one arity and equality for each number of an owner, and of
-- those of other owners the owner and the number can be written
pub record AreWritable (home : List ℕ) (next : ℕ) (known : TyName → Bool) : Type 0 where
  pub one_each : AreKnown home next known
  pub unbound : (name : TyName) → known name ≡ true → is_bound_name name ≡ false
  pub owners : (name : TyName) → known name ≡ true → HasText name.owner
  pub numbers : (name : TyName) → known name ≡ true → is_other home name ≡ true → IsNumber name.number

-- the basis and what is given: well formed over known names, with good names in tables that rise, and no variable of a
-- table
pub record IsFairGiven (good : List ℕ → Bool) (known : TyName → Bool) (home : List ℕ) (basis : Env) (given : Top)
    (st : Progress) : Type 0 where
  pub of : IsOfUnit good basis given st (well_formed good known)
  pub basis_named : NamedEnv good basis
  pub given_named : NamedTop good given
  pub basis_rises : RisingEnv basis
  pub given_rises : RisingTop given
  pub basis_closed : IsClosedEnv basis
  pub given_closed : IsClosedTop given

-- what a unit defines is a fair top, where what is counted of it can be written. It isn't asked of signatures and
-- functors that are given that their bound names stand in them
pub record UnitsAreFair : Type 0 where
  pub all : (good : List ℕ → Bool) (known : TyName → Bool) (depth : ℕ) (home : List ℕ) (basis : Env) (given : Top)
      (sealing : Bool) (tops : List TopPhrase) (st : Progress) → CanBeWritten good home
      → AreWritable home st.names known → IsFairGiven good known home basis given st
      → AllItems (TopSpelt good) tops → AllItems (TopNamed good) tops
      → Given (λ r. CountedTop home r.0 → IsFairTop home r.0) (infer_unit depth home basis given sealing tops st)
