-- The law, as the public function of this crate states it.
use Rattle.std.specs.Prelude.{◌≡◌, Some}
use Rattle.semantic_objects.specs.declared.name.TyName.{TyName}
use Rattle.semantic_objects.specs.declared.entry.TypeFn.{TypeFn}
use Rattle.semantic_objects.specs.Environments.{Env, Signature}
use Rattle.unification.specs.Types.{Substitution, State}
use Rattle.unification.specs.Generality.{MarksOwn}
use Rattle.unification.specs.Unification.{Solves}
use Rattle.realisation.specs.Realised.{Realisation, realised}
use Rattle.static_semantics.specs.EnvironmentsPut.{put_env}
use Rattle.inference_laws.specs.Alike.{FirmEnv}
use Rattle.module_semantics.specs.Promises.{IsOfState}
use Rattle.module_semantics.specs.ElaboratesSignatures.{Matches}
use Rattle.unit_semantics.specs.Promises.{IsClosedFunction, IsClosedEnv}

-- an environment of a state, in whose types no variable of the table stands, matches a closed signature under a choice
-- that solves the state wherever it does without: by the same realisation, and the realised signature is closed
pub record MatchingStays : Type 0 where
  pub matches : (s p : State) (env : Env) (sig : Signature) (φ : Realisation) → Solves p s → MarksOwn p
      → IsOfState s env → FirmEnv env → IsClosedEnv (realised φ sig.env)
      → ((name : TyName) (by : TypeFn) → φ name ≡ Some by → IsClosedFunction by) → Matches s env sig φ
      → Matches p (put_env p.stands env) sig φ
  -- what is known in a state is seen under such a choice as it is, and a closed environment stays what it is
  pub known : (s p : State) (env : Env) → Solves p s
      → put_env p.stands (put_env s.stands env) ≡ put_env p.stands env
  pub closed : (t : Substitution) (env : Env) → IsClosedEnv env → put_env t env ≡ env
