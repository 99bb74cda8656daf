-- The laws, as the public functions of this crate state them.
use Rattle.std.specs.Prelude.{ℕ}
use Rattle.unification.specs.Types.{Substitution, put}
use Rattle.bare_phrases.specs.Phrases.{TyPhrase, PatPhrase}
use Rattle.static_semantics.specs.Inferring.{Progress, Scope, Bound}
use Rattle.static_semantics.specs.TypeInference.{infer_ty}
use Rattle.static_semantics.specs.PatternInference.{infer_pat}
use Rattle.static_semantics.specs.EnvironmentsPut.{put_scope}
use Rattle.static_semantics.specs.Elaborates.{ElaboratesTy}
use Rattle.static_semantics.specs.Holding.{Given, AllRows}
use Rattle.static_semantics.specs.Growing.{TyIn, IsReady}
use Rattle.inference_laws.specs.Alike.{FirmEnv}
use Rattle.inference_laws.specs.Promises.{Any}
use Rattle.phrase_laws.specs.Derived.{PatDerived}

-- whatever is put in for the variables of the table, in the scope and in the type that inference gives, the rules give
-- that type
pub record TypesHaveDerivations : Type 0 where
  pub ty : (s : Substitution) (sc : Scope) (ty : TyPhrase)
      → Given (λ t. ElaboratesTy (put_scope s sc) ty (put s t)) (infer_ty sc ty)

-- for each choice that solves the state after a pattern, the rules give the pattern, in the scope under the choice, its
-- type and the variables that it binds under the choice
pub record PatternsHaveDerivations : Type 0 where
  pub pat : (depth : ℕ) (sc : Scope) (pat : PatPhrase) (bound : Bound) (st : Progress) → FirmEnv sc.env
      → IsReady Any sc st → AllRows (TyIn Any st.types) bound
      → Given (PatDerived sc pat bound st) (infer_pat depth sc pat bound st)
