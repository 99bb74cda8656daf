-- The laws, as the public functions of this crate state them.
use Rattle.std.specs.Prelude.{ℕ}
use Rattle.bare_phrases.specs.Phrases.{ExpPhrase, Rules, DecPhrase}
use Rattle.static_semantics.specs.Inferring.{Progress, Scope}
use Rattle.static_semantics.specs.CoreInference.{infer_exp, infer_match, infer_dec}
use Rattle.static_semantics.specs.Holding.{Given}
use Rattle.static_semantics.specs.Growing.{IsReady}
use Rattle.inference_laws.specs.Alike.{FirmEnv}
use Rattle.inference_laws.specs.Promises.{Any}
use Rattle.datatype_laws.specs.Below.{TypesBelow}
use Rattle.phrase_laws.specs.Derived.{ExpDerived, MatchDerived, DecDerived}
use Rattle.elaboration_laws.specs.Declaring.{BindsValues, ExpHas, RulesHave, DecHas}

-- for each choice that solves the state after an expression, a match or a declaration, whose `rec` bindings have
-- functions for their right sides, the rules give it, in the scope under the choice, what inference gives under the
-- choice, from the number of type names at the start to the one at the end. The types in scope hold no variable of the
-- table, and the unit's type names in them have numbers below the next one
pub record ExpressionsHaveDerivations : Type 0 where
  pub exp : (depth : ℕ) (sc : Scope) (exp : ExpPhrase) (st : Progress) → ExpHas BindsValues exp → FirmEnv sc.env
      → TypesBelow sc.home st.names sc.env → IsReady Any sc st → Given (ExpDerived sc exp st) (infer_exp depth sc exp st)
  pub rules : (depth : ℕ) (sc : Scope) (rules : Rules) (st : Progress) → RulesHave BindsValues rules → FirmEnv sc.env
      → TypesBelow sc.home st.names sc.env → IsReady Any sc st → Given (MatchDerived sc rules st) (infer_match depth sc rules st)
  pub dec : (depth : ℕ) (sc : Scope) (dec : DecPhrase) (st : Progress) → DecHas BindsValues dec → FirmEnv sc.env
      → TypesBelow sc.home st.names sc.env → IsReady Any sc st → Given (DecDerived sc dec st) (infer_dec depth sc dec st)
