-- The laws, as the public functions of this crate state them.
use Rattle.std.specs.Prelude.{◌≡◌, ℕ, List, Bool, true}
use Rattle.semantic_objects.specs.declared.name.TyName.{TyName}
use Rattle.semantic_objects.specs.Tables.{Table}
use Rattle.semantic_objects.specs.Environments.{Env, Signature, Top}
use Rattle.realisation.specs.Names.{names_in_env, is_listed}
use Rattle.static_semantics.specs.Inferring.{Progress, Scope}
use Rattle.static_semantics.specs.Holding.{Given, AllRows}
use Rattle.module_semantics.specs.Promises.{StandAlone}
use Rattle.module_semantics.specs.SigPhrases.{SigPhrase}
use Rattle.module_semantics.specs.SignatureInference.{signature_of}
use Rattle.unit_semantics.specs.UnitPhrases.{TopPhrase}
use Rattle.unit_semantics.specs.UnitInference.{infer_unit}
use Rattle.table_laws.specs.Rising.{RisingEnv, RisingSignature, RisingTop}
use Rattle.signature_laws.specs.Standing.{Stands, SignatureStands, TopStands}

-- in what inference makes of a signature expression each bound name is that of a type, where it is so of all signatures
-- that have names
pub record SignaturesStand : Type 0 where
  pub all : (sigs : Table Signature) (sc : Scope) (sig : SigPhrase) (st : Progress) → AllRows SignatureStands sigs
      → AllRows RisingSignature sigs → RisingEnv sc.env
      → Given (λ r. SignatureStands r.0) (signature_of sigs sc sig st)

-- so it is of the signatures and of the parameters of functors and funsigs that a unit defines, where it is of those
-- that it is given
pub record UnitsStand : Type 0 where
  pub all : (depth : ℕ) (home : List ℕ) (basis : Env) (given : Top) (sealing : Bool) (tops : List TopPhrase)
      (st : Progress) → RisingEnv basis → RisingTop given → TopStands given
      → Given (λ r. TopStands r.0) (infer_unit depth home basis given sealing tops st)

-- what that means: such a name stands alone at a type, and occurs
pub record StandingNamesOccur : Type 0 where
  pub alone : (sig : Signature) → SignatureStands sig → StandAlone sig
  pub occurs : (env : Env) (name : TyName) → Stands env name → is_listed name (names_in_env env) ≡ true
