-- Both walks, one after the other.
use Rattle.std.proofs.Common.{◌≡◌, ℕ, refl, ap, ◌∙◌, subst, List, [], Some}
use Rattle.std.specs.Prelude.{Result, Err}
use Rattle.cm_base.specs.declared.diag.Place.{Place}
use Rattle.cm_base.specs.declared.fault.Fault.{Fault}
use Rattle.cm_base.specs.declared.fault.Fault.TheVariants as fault
use Rattle.semantic_objects.specs.Environments.{Env, Signature}
use Rattle.unification.specs.Types.{State}
use Rattle.realisation.specs.Realised.{of_rows, realised}
use Rattle.type_walks.specs.declared.replacing.Realisation.{Realisation}
use Rattle.sml_modules.specs.declared.id.EnvId.{EnvId}
use Rattle.sml_modules.specs.Graphs.{Graph, env_at, HasEnv, GivesEnv}
use Rattle.static_semantics.specs.Inferring.{Scope, ◌>>=◌, gives}
use Rattle.static_semantics.specs.EnvironmentsPut.{put_env}
use Rattle.module_semantics.specs.Matching.{Rows, items_under, realisation_of, enriching_all, matching, matched}
use Rattle.core_scopes.specs.Paths.{led_on}
use Rattle.type_phrases.specs.Inferred.{Answers}
use Rattle.structure_matching.specs.declared.matching.Matched.{Matched}
use Rattle.structure_matching.specs.Searching.{at_of}
use Rattle.structure_matching.specs.Enriching.{Enriches}

-- the first walk fails
pub no_rows : {R : Type 0} (inner : Scope) (place : Place) (s : State) (env : Env) (sig : Signature) (f : Fault)
    (read : R → Rows) (other : Realisation → Rows)
    → Answers (realisation_of inner (at_of place) s env sig) other (Err f)
    → Answers (matching inner (at_of place) s env sig) read (Err f)
no_rows inner place s env sig (fault.Diag d) read other h =
    ap (λ m. m >>= λ rows. enriching_all inner (at_of place) s env (items_under [] (realised (of_rows rows) sig.env))
    >>= λ u. gives rows) h
no_rows inner place s env sig fault.NoMemory read other h = tt

-- .. or the second
pub no_match : {R : Type 0} (inner : Scope) (place : Place) (s : State) (env : Env) (sig : Signature) (rows : Rows)
    (f : Fault) (read : R → Rows) → realisation_of inner (at_of place) s env sig ≡ gives rows
    → Answers (enriching_all inner (at_of place) s env (items_under [] (realised (of_rows rows) sig.env)))
    (λ (u : Unit {0}). tt) (Err f)
    → Answers (matching inner (at_of place) s env sig) read (Err f)
no_match inner place s env sig rows (fault.Diag d) read h k =
    ap (λ m. m >>= λ rows. enriching_all inner (at_of place) s env (items_under [] (realised (of_rows rows) sig.env))
    >>= λ u. gives rows) h
    ∙ ap (λ m. m >>= λ u. gives rows) k
no_match inner place s env sig rows fault.NoMemory read h k = tt

-- what the second walk answers, from the root, in a graph with the realised environment
pub from_root : (place : Place) (s : State) (r : Result (Unit {0}) Fault) (g h : Graph) (env made : EnvId)
    (path : List (List ℕ)) (specified : Env) → HasEnv g env → GivesEnv g h specified made → path ≡ []
    → Enriches place s r (λ root. led_on path root ≡ Some (put_env s.stands (env_at h env))) (items_under path (env_at h made))
    → (inner : Scope) → inner.home ≡ place.file
    → Answers (enriching_all inner (at_of place) s (put_env s.stands (env_at g env)) (items_under [] specified))
    (λ (u : Unit {0}). tt) r
from_root place s r g h env made path specified has k e w inner home =
    let same : env_at h env ≡ env_at g env = k.keeps.env env has in
    let here : Enriches place s r (λ root. led_on [] root ≡ Some (put_env s.stands (env_at g env)))
    (items_under [] specified) =
    subst (λ x. Enriches place s r (λ root. led_on [] root ≡ Some (put_env s.stands x)) (items_under [] specified)) same
    (subst (λ x. Enriches place s r (λ root. led_on [] root ≡ Some (put_env s.stands (env_at h env))) (items_under [] x))
    k.stands
    (subst (λ p. Enriches place s r (λ root. led_on p root ≡ Some (put_env s.stands (env_at h env)))
    (items_under p (env_at h made))) e w)) in
    here inner (put_env s.stands (env_at g env)) home refl

-- ---- the environment that is matched

pub not_matched : (inner : Scope) (place : Place) (s : State) (env : Env) (sig : Signature) (f : Fault)
    (read : Matched → Rows) (other : EnvId → Env)
    → Answers (matching inner (at_of place) s env sig) read (Err f)
    → Answers (matched inner (at_of place) s env sig) other (Err f)
not_matched inner place s env sig (fault.Diag d) read other h =
    ap (λ m. m >>= λ rows. gives (realised (of_rows rows) sig.env)) h
not_matched inner place s env sig fault.NoMemory read other h = tt
