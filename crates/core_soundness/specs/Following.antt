-- What it means that the rules give what was accepted. The Definition of Standard ML (Revised), section 4.10.
use Rattle.semantic_objects.specs.Environments.{Env}
use Rattle.unification.specs.Types.{Ty, State, put}
use Rattle.unification.specs.Unification.{Solves}
use Rattle.bare_phrases.specs.Phrases.{ExpPhrase, DecPhrase}
use Rattle.static_semantics.specs.Inferring.{Progress, Scope}
use Rattle.static_semantics.specs.EnvironmentsPut.{put_env, put_scope}
use Rattle.static_semantics.specs.Elaborates.{ElaboratesExp, ElaboratesDec}
use Rattle.inference_laws.specs.Alike.{FirmEnv}
use Rattle.datatype_laws.specs.Below.{TypesBelow}

-- what is asked of the types in scope: no variable of the table stands in them, nor as the type of a constructor or an
-- exception, and the unit's type names in them have numbers below the next one
pub record HasFirmTypes (sc : Scope) (st : Progress) : Type 0 where
  pub firm : FirmEnv sc.env
  pub below : TypesBelow sc.home st.names sc.env

-- the rules give an expression this type, from the number of type names at the start to the one at the end: as the state
-- at the end shows scope and type, and as each choice of types shows them that solves this state
pub record HasTypeByRules (sc : Scope) (exp : ExpPhrase) (st : Progress) (r : Ty × Progress) : Type 0 where
  pub shown : ElaboratesExp r.1.types.marks (put_scope r.1.types.stands sc) st.names exp (put r.1.types.stands r.0)
      r.1.names
  pub chosen : (p : State) → Solves p r.1.types
      → ElaboratesExp p.marks (put_scope p.stands sc) st.names exp (put p.stands r.0) r.1.names

-- .. and a declaration this environment
pub record DeclaresByRules (sc : Scope) (dec : DecPhrase) (st : Progress) (r : Env × Progress) : Type 0 where
  pub shown : ElaboratesDec r.1.types.marks (put_scope r.1.types.stands sc) st.names dec (put_env r.1.types.stands r.0)
      r.1.names
  pub chosen : (p : State) → Solves p r.1.types
      → ElaboratesDec p.marks (put_scope p.stands sc) st.names dec (put_env p.stands r.0) r.1.names
