-- The laws, as the public functions of this crate state them.
use Rattle.std.specs.Prelude.{ℕ, List, Bool}
use Rattle.semantic_objects.specs.declared.name.TyName.{TyName}
use Rattle.semantic_objects.specs.Environments.{Env, Top}
use Rattle.static_semantics.specs.Inferring.{Progress}
use Rattle.static_semantics.specs.Holding.{Given, AllItems}
use Rattle.inference_laws.specs.Nodes.{Nodes, Makes, below_number}
use Rattle.inference_laws.specs.WellFormed.{well_formed, AreKnown}
use Rattle.inference_laws.specs.Promises.{GivesWellFormed}
use Rattle.unit_semantics.specs.UnitPhrases.{TopPhrase}
use Rattle.unit_semantics.specs.UnitInference.{with_given, infer_unit}
use Rattle.inference_laws.specs.Naming.{NamedEnv}
use Rattle.unit_laws.specs.Naming.{TopNamed, NamedTop}
use Rattle.unit_laws.specs.Spelling.{TopSpelt}
use Rattle.unit_laws.specs.Parts.{TopOf, IsOfTop}

-- what a unit is given is made of such nodes: the basis, and what is in front of it
abbrev pub IsOfUnit : (List ℕ → Bool) → Env → Top → Progress → Nodes → Type 0
IsOfUnit good basis given st q = IsOfTop good (with_given basis given) st q

-- the unit's names that are there before have numbers below the next one
abbrev pub IsBelowNext : (List ℕ → Bool) → List ℕ → Env → Top → Progress → Type 0
IsBelowNext good home basis given st = IsOfUnit good basis given st (below_number home st.names)

-- whatever nodes one looks at, as long as those of the language and of what is given are among them: with the names
-- that it makes, which are numbered one after another from the state's next number on, so are those of what the unit
-- defines. In a signature or a functor the names that it binds stand too, which are numbered from 0, and no others
pub record UnitsMakeOfGiven : Type 0 where
  pub all : (good : List ℕ → Bool) (depth : ℕ) (home : List ℕ) (basis : Env) (given : Top) (sealing : Bool)
      (tops : List TopPhrase) (st : Progress) → AllItems (TopSpelt good) tops → IsBelowNext good home basis given st
      → Given (λ r. Makes home (IsOfUnit good basis given st) st r.1 (λ q. TopOf q r.0))
      (infer_unit depth home basis given sealing tops st)

-- over known names, with one arity and equality for each number, where what is given is well formed: numbers of names
-- only rise, and what the unit defines is well formed over these names and names with the numbers that were made, with
-- one arity and equality for each number still
pub record UnitsKeepWellFormed : Type 0 where
  pub all : (good : List ℕ → Bool) (known : TyName → Bool) (depth : ℕ) (home : List ℕ) (basis : Env) (given : Top)
      (sealing : Bool) (tops : List TopPhrase) (st : Progress) → AllItems (TopSpelt good) tops
      → AreKnown home st.names known → IsOfUnit good basis given st (well_formed good known)
      → Given (λ r. GivesWellFormed good home known st r.1 (λ q. TopOf q r.0))
      (infer_unit depth home basis given sealing tops st)

-- where the names of what is given and those that a unit binds are such as one asks for, so are those of what it
-- defines: of structures, types, constructors, values, signatures, functors and funsigs
pub record UnitsKeepNames : Type 0 where
  pub all : (good : List ℕ → Bool) (depth : ℕ) (home : List ℕ) (basis : Env) (given : Top) (sealing : Bool)
      (tops : List TopPhrase) (st : Progress) → AllItems (TopNamed good) tops → NamedEnv good basis
      → NamedTop good given → Given (λ r. NamedTop good r.0) (infer_unit depth home basis given sealing tops st)
