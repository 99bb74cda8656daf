-- The laws of units, as the public functions of this crate state them.
use Rattle.std.specs.Prelude.{◌≡◌, ℕ, List, [], Some, Result, Bool, false}
use Rattle.cm_base.specs.declared.diag.Diag.{Diag}
use Rattle.semantic_objects.specs.declared.entry.TypeFn.{TypeFn}
use Rattle.semantic_objects.specs.Trees.{TypeScheme}
use Rattle.semantic_objects.specs.Environments.{Env, Signature, Functor, Top, types, values}
use Rattle.env_parts.specs.Types.{holds_free}
use Rattle.bare_phrases.specs.Phrases.{DecPhrase}
use Rattle.static_semantics.specs.Inferring.{Progress}
use Rattle.static_semantics.specs.CoreInference.{infer_dec}
use Rattle.static_semantics.specs.Holding.{Given, AllRows, EnvHas}
use Rattle.unit_semantics.specs.UnitPhrases.{TopPhrase, module_dec}
use Rattle.unit_semantics.specs.StructureInference.{core_scope, infer_module_dec}
use Rattle.unit_semantics.specs.UnitInference.{infer_unit}

-- a declaration of the core, `local` and sequences too, means in a structure what it means in the core
abbrev pub MeansTheSame : Type 0
MeansTheSame = (depth : ℕ) (home : List ℕ) (top : Top) (dec : DecPhrase) (st : Progress)
    (r : Result (Env × Progress) Diag) → infer_dec depth (core_scope home top) dec st ≡ Some r
    → infer_module_dec depth home top (module_dec dec) st ≡ Some r

-- no type variable of a table stands in a scheme, in a type function, in an environment
abbrev pub IsClosedScheme : TypeScheme → Type 0
IsClosedScheme σ = holds_free σ.body ≡ false

abbrev pub IsClosedFunction : TypeFn → Type 0
IsClosedFunction function = holds_free function.body ≡ false

abbrev pub IsClosedEnv : Env → Type 0
IsClosedEnv env = EnvHas IsClosedScheme IsClosedFunction env

-- an environment of structures alone, in which no type variable stands
pub record IsOfStructures (env : Env) : Type 0 where
  pub no_types : types env ≡ []
  pub no_values : values env ≡ []
  pub closed : IsClosedEnv env

abbrev pub GivesClosed : Functor → Type 0
GivesClosed fun = IsClosedEnv fun.result

-- whatever is in scope, a unit defines structures in which no type variable stands, no types and values beside them,
-- and functors in whose results none stands
pub record DefinesStructures (top : Top) : Type 0 where
  pub env : IsOfStructures top.env
  pub functors : AllRows GivesClosed top.functors

pub record UnitsDefineStructures : Type 0 where
  pub all : (depth : ℕ) (home : List ℕ) (basis : Env) (given : Top) (sealing : Bool) (tops : List TopPhrase)
      (st : Progress) → Given (λ r. DefinesStructures r.0) (infer_unit depth home basis given sealing tops st)

-- no type variable stands in a signature, in a functor, in anything that stands at the top
abbrev pub IsClosedSignature : Signature → Type 0
IsClosedSignature sig = IsClosedEnv sig.env

pub record IsClosedFunctor (fun : Functor) : Type 0 where
  pub param : IsClosedEnv fun.param
  pub result : IsClosedEnv fun.result

pub record IsClosedTop (top : Top) : Type 0 where
  pub env : IsClosedEnv top.env
  pub signatures : AllRows IsClosedSignature top.signatures
  pub functors : AllRows IsClosedFunctor top.functors
  pub funsigs : AllRows IsClosedFunctor top.funsigs

-- where no type variable stands in the basis and in what is given, none stands in what a unit defines
pub record UnitsAreClosed : Type 0 where
  pub all : (depth : ℕ) (home : List ℕ) (basis : Env) (given : Top) (sealing : Bool) (tops : List TopPhrase)
      (st : Progress) → IsClosedEnv basis → IsClosedTop given
      → Given (λ r. IsClosedTop r.0) (infer_unit depth home basis given sealing tops st)
