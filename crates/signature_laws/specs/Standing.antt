-- The names that a signature binds: each is that of a type in it, and they are numbered one after another.
-- The Definition of Standard ML (Revised), section 5.1 and rule 62.
use Rattle.std.specs.Prelude.{◌≡◌, ℕ, List, [], ◌∷◌, Option, Some, None}
use Rattle.semantic_objects.specs.declared.name.TyName.{TyName}
use Rattle.semantic_objects.specs.declared.entry.TypeStr.{TypeStr}
use Rattle.semantic_objects.specs.Tables.{entry}
use Rattle.semantic_objects.specs.Environments.{Env, Signature, Functor, Top, structures, types}
use Rattle.static_semantics.specs.Holding.{AllItems, AllRows}
use Rattle.module_semantics.specs.SignatureNames.{name_alone}
use Rattle.unit_semantics.specs.StructureInference.{param_of}
use Rattle.unit_laws.specs.Parts.{AreBoundFrom}

-- something is found, and this holds of it
abbrev pub IsFound : {A : Type 0} → (A → Type 0) → Option A → Type 0
IsFound R None = ⊥
IsFound R (Some x) = R x

-- a type whose function is a type name alone
abbrev pub IsOfName : TyName → TypeStr → Type 0
IsOfName name str = name_alone str.function ≡ Some name

-- .. that a long name leads to
abbrev pub StandsAt : TyName → List (List ℕ) → Env → Type 0
StandsAt name [] env = ⊥
StandsAt name (part ∷ []) env = IsFound (IsOfName name) (entry part (types env))
StandsAt name (part ∷ next ∷ rest) env = IsFound (StandsAt name (next ∷ rest)) (entry part (structures env))

-- a type of the environment or of a structure in it has this name for its function
abbrev pub Stands : Env → TyName → Type 0
Stands env name = (path : List (List ℕ)) × StandsAt name path env

-- each of the bound names is that of a type, and they are numbered from 0
pub record SignatureStands (sig : Signature) : Type 0 where
  pub bound : AreBoundFrom 0 sig.bound
  pub stand : AllItems (Stands sig.env) sig.bound

-- those of a functor's parameter
abbrev pub ParameterStands : Functor → Type 0
ParameterStands fun = SignatureStands (param_of fun)

pub record TopStands (top : Top) : Type 0 where
  pub signatures : AllRows SignatureStands top.signatures
  pub functors : AllRows ParameterStands top.functors
  pub funsigs : AllRows ParameterStands top.funsigs
