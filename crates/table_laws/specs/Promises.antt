-- The laws, as the public functions of this crate state them.
use Rattle.std.specs.Prelude.{ℕ, List, Bool}
use Rattle.semantic_objects.specs.Environments.{Env, Top}
use Rattle.bare_phrases.specs.Phrases.{DatPhrase, ExPhrase, DecPhrase}
use Rattle.static_semantics.specs.Inferring.{Progress, Scope}
use Rattle.static_semantics.specs.DatatypeInference.{datatypes_of, exceptions_of}
use Rattle.static_semantics.specs.CoreInference.{infer_dec}
use Rattle.static_semantics.specs.Holding.{Given}
use Rattle.unit_semantics.specs.UnitPhrases.{TopPhrase}
use Rattle.unit_semantics.specs.UnitInference.{infer_unit}
use Rattle.table_laws.specs.Rising.{RisingEnv, RisingTop}

-- where the tables in scope rise, so do those of what a declaration makes
pub record KeepsTables : Type 0 where
  pub dec : (depth : ℕ) (sc : Scope) (dec : DecPhrase) (st : Progress) → RisingEnv sc.env
      → Given (λ r. RisingEnv r.0) (infer_dec depth sc dec st)
  pub datatypes : (sc : Scope) (refused : List (List ℕ)) (binds : List DatPhrase) (st : Progress)
      → Given (λ r. RisingEnv r.0) (datatypes_of sc refused binds st)
  pub exceptions : (sc : Scope) (binds : List ExPhrase) → Given RisingEnv (exceptions_of sc binds)

-- where the tables of what is given rise, so do those of what a unit defines
pub record UnitsKeepTables : Type 0 where
  pub all : (depth : ℕ) (home : List ℕ) (basis : Env) (given : Top) (sealing : Bool) (tops : List TopPhrase)
      (st : Progress) → RisingEnv basis → RisingTop given
      → Given (λ r. RisingTop r.0) (infer_unit depth home basis given sealing tops st)
