-- The laws, as the public functions of this crate state them.
use Rattle.std.specs.Prelude.{ℕ, List}
use Rattle.unification.specs.Fitting.{IsFit}
use Rattle.bare_phrases.specs.Phrases.{DatPhrase, DecPhrase}
use Rattle.static_semantics.specs.Inferring.{Progress, Scope}
use Rattle.static_semantics.specs.DatatypeInference.{datatypes_of}
use Rattle.static_semantics.specs.CoreInference.{infer_dec}
use Rattle.static_semantics.specs.Holding.{Given}
use Rattle.static_semantics.specs.Growing.{IsReady}
use Rattle.inference_laws.specs.Alike.{FirmEnv}
use Rattle.inference_laws.specs.Promises.{Any}
use Rattle.datatype_laws.specs.Below.{TypesBelow}
use Rattle.datatype_laws.specs.Derived.{DatatypesDerived}

-- what inference gives for datatypes has a derivation, where no variable of the table stands in the types of the
-- environment and the unit's type names in these have numbers below the next one
pub record DatatypesHaveDerivations : Type 0 where
  pub all : (sc : Scope) (refused : List (List ℕ)) (binds : List DatPhrase) (st : Progress) → FirmEnv sc.env
      → TypesBelow sc.home st.names sc.env → IsFit st.types
      → Given (DatatypesDerived sc refused binds st) (datatypes_of sc refused binds st)

-- .. and so have those in what a declaration makes, below the next one afterwards
pub record TypesStayBelow : Type 0 where
  pub dec : (depth : ℕ) (sc : Scope) (dec : DecPhrase) (st : Progress) → FirmEnv sc.env → IsReady Any sc st
      → TypesBelow sc.home st.names sc.env → Given (λ r. TypesBelow sc.home r.1.names r.0) (infer_dec depth sc dec st)
