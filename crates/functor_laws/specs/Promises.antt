-- The law, as the public function of this crate states it.
use Rattle.std.specs.Prelude.{◌≡◌, ℕ, List, Bool, true, ◌&&◌, ◌||◌, not, ltb}
use Rattle.semantic_objects.specs.declared.name.TyName.{TyName}
use Rattle.semantic_objects.specs.declared.symbol.Symbol.TheVariants as symbol
use Rattle.semantic_objects.specs.Environments.{Env, Functor, Top}
use Rattle.realisation.specs.Names.{names_in_env, is_listed}
use Rattle.realisation.specs.Canonical.{is_bound_name, is_of_param}
use Rattle.static_semantics.specs.Inferring.{Progress}
use Rattle.static_semantics.specs.DatatypeInference.{same_as_home}
use Rattle.static_semantics.specs.Holding.{Given, AllItems, AllRows}
use Rattle.inference_laws.specs.Nodes.{Nodes}
use Rattle.unit_semantics.specs.UnitPhrases.{TopPhrase}
use Rattle.unit_semantics.specs.UnitInference.{infer_unit}
use Rattle.unit_laws.specs.Spelling.{TopSpelt}
use Rattle.unit_laws.specs.Promises.{IsOfUnit}

-- a symbol is no bound type name, and no type name of a unit with a number from another one on
abbrev pub open_below : List ℕ → ℕ → Nodes
open_below home k symbol.Arrow parts = true
open_below home k (symbol.Record labels) parts = true
open_below home k (symbol.Name name) parts =
    not (is_bound_name name) && (not (same_as_home home name.owner) || ltb name.number k)

-- those of the names that a functor binds for its parameter that stand in its result stand in the parameter
abbrev pub TakesFromParameter : Functor → Type 0
TakesFromParameter fun = (name : TyName) → is_listed name (names_in_env fun.result) ≡ true
    → is_of_param fun name ≡ true → is_listed name (names_in_env fun.param) ≡ true

pub record TakeFromParameters (top : Top) : Type 0 where
  pub functors : AllRows TakesFromParameter top.functors
  pub funsigs : AllRows TakesFromParameter top.funsigs

-- .. so it is of the functors and funsigs that a unit defines, where no bound name stands outside the signatures and
-- functors that it is given, and its own names there have numbers below the next one. It needn't be so of those that it
-- is given
pub record FunctorsTakeFromParameters : Type 0 where
  pub all : (good : List ℕ → Bool) (depth : ℕ) (home : List ℕ) (basis : Env) (given : Top) (sealing : Bool)
      (tops : List TopPhrase) (st : Progress) → AllItems (TopSpelt good) tops
      → IsOfUnit good basis given st (open_below home st.names)
      → Given (λ r. TakeFromParameters r.0) (infer_unit depth home basis given sealing tops st)
