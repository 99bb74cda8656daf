-- The law, as the public function of this crate states it.
use Rattle.std.specs.Prelude.{◌≡◌, ℕ, List}
use Rattle.sml_trees.specs.declared.name.At.{At}
use Rattle.semantic_objects.specs.Environments.{Env}
use Rattle.unification.specs.Types.{Ty}
use Rattle.unification.specs.Fitting.{IsFit}
use Rattle.bare_phrases.specs.Phrases.{DatPhrase, ExPhrase, ExpPhrase, DecPhrase}
use Rattle.static_semantics.specs.BasicTypes.{reserved_constructors}
use Rattle.static_semantics.specs.Inferring.{Progress, Scope, gives}
use Rattle.static_semantics.specs.DatatypeInference.{datatypes_of, exceptions_of}
use Rattle.static_semantics.specs.CoreInference.{infer_exp, infer_dec}
use Rattle.inference_laws.specs.Alike.{FirmEnv}
use Rattle.closing_laws.specs.Promises.{IsOfState}
use Rattle.elaboration_laws.specs.Declaring.{BindsValues, ExpHas, DecHas}
use Rattle.core_soundness.specs.Following.{HasFirmTypes, HasTypeByRules, DeclaresByRules}

-- what inference gives follows by the rules, where everything in scope is of the state, the types in scope are firm, and
-- `rec` bindings bind functions, as those of every source do; so do the datatypes and the exceptions of a declaration,
-- wherever it stands, of which less is asked
pub record AcceptedFollows : Type 0 where
  pub exp : (depth : ℕ) (sc : Scope) (exp : ExpPhrase) (st : Progress) (r : Ty × Progress) → IsOfState sc st
      → infer_exp depth sc exp st ≡ gives r → ExpHas BindsValues exp → HasFirmTypes sc st
      → HasTypeByRules sc exp st r
  pub dec : (depth : ℕ) (sc : Scope) (dec : DecPhrase) (st : Progress) (r : Env × Progress) → IsOfState sc st
      → infer_dec depth sc dec st ≡ gives r → DecHas BindsValues dec → HasFirmTypes sc st
      → DeclaresByRules sc dec st r
  pub datatypes : (sc : Scope) (binds : List DatPhrase) (at : At) (st : Progress) (r : Env × Progress)
      → IsFit st.types → datatypes_of sc reserved_constructors binds st ≡ gives r → HasFirmTypes sc st
      → DeclaresByRules sc (DecPhrase.Datatypes binds at) st r
  pub exceptions : (sc : Scope) (binds : List ExPhrase) (at : At) (st : Progress) (made : Env)
      → exceptions_of sc binds ≡ gives made → FirmEnv sc.env
      → DeclaresByRules sc (DecPhrase.Exceptions binds at) st (made, st)
