-- The walk for a realisation from the root of a signature.
use Rattle.std.proofs.Common.{◌≡◌, refl, sym, ap, ◌∙◌, subst, List, [], Some}
use Rattle.std.specs.Prelude.{Result, Err}
use Rattle.std.specs.List.{list_any}
use Rattle.cm_base.specs.declared.diag.Place.{Place}
use Rattle.cm_base.specs.declared.fault.Fault.{Fault}
use Rattle.cm_base.specs.declared.fault.Fault.TheVariants as fault
use Rattle.semantic_objects.specs.declared.name.TyName.{TyName}
use Rattle.semantic_objects.specs.Environments.{Env, Signature}
use Rattle.unification.specs.Types.{State}
use Rattle.type_walks.specs.Replaced.{rows_of}
use Rattle.static_semantics.specs.Inferring.{Scope, Answer, ◌>>=◌, gives, refuses_where}
use Rattle.static_semantics.specs.EnvironmentsPut.{put_env}
use Rattle.module_semantics.specs.Matching.{Rows, items_under, realising_all, is_left, realisation_of}
use Rattle.core_scopes.specs.Paths.{led_on}
use Rattle.type_phrases.specs.Inferred.{Answers}
use Rattle.structure_matching.specs.declared.search.Search.{Search}
use Rattle.structure_matching.specs.Searching.{at_of, Begins, Realises}

abbrev pub WalksRoot : Place → Search → Search → Result (Unit {0}) Fault → Env → Env → Type 0
WalksRoot place old new result found specified = Realises place old new result
    (λ s root. led_on old.path root ≡ Some (put_env s.stands found)) (items_under old.path specified)

from_root : (place : Place) (old new : Search) (r : Result (Unit {0}) Fault) (found specified : Env) (names : List TyName)
    → Begins names old → WalksRoot place old new r found specified → (inner : Scope) (s : State)
    → inner.home ≡ place.file
    → Answers (realising_all inner (at_of place) s (put_env s.stands found) names (items_under [] specified) [])
    (λ u. rows_of new.rows) r
from_root place old new r found specified names b w inner s home =
    subst (λ (m : Answer Rows). Answers m (λ u. rows_of new.rows) r)
    (ap (λ path. realising_all inner (at_of place) s (put_env s.stands found) old.bound.names (items_under path specified)
    (rows_of old.rows)) b.path
    ∙ ap (λ ns. realising_all inner (at_of place) s (put_env s.stands found) ns (items_under [] specified) (rows_of old.rows))
    b.bound
    ∙ ap (realising_all inner (at_of place) s (put_env s.stands found) names (items_under [] specified)) b.rows)
    (w inner s (put_env s.stands found) home
    (subst (λ path. led_on path (put_env s.stands found) ≡ Some (put_env s.stands found)) (sym b.path) refl))

bound_is : (sig : Signature) (names : List TyName) (inner : Scope) (place : Place) (s : State) (env : Env)
    → names ≡ sig.bound
    → realisation_of inner (at_of place) s env sig
    ≡ (realising_all inner (at_of place) s env names (items_under [] sig.env) []
    >>= λ rows. refuses_where (list_any (is_left rows) sig.bound) 37 inner (at_of place) >>= λ u. gives rows)
bound_is sig names inner place s env e =
    ap (λ ns. realising_all inner (at_of place) s env ns (items_under [] sig.env) []
    >>= λ rows. refuses_where (list_any (is_left rows) sig.bound) 37 inner (at_of place) >>= λ u. gives rows) (sym e)

pub search_fails : {R : Type 0} (place : Place) (old new : Search) (found : Env) (sig : Signature) (names : List TyName)
    (f : Fault) (read : R → Rows) → Begins names old → names ≡ sig.bound
    → WalksRoot place old new (Err f) found sig.env → (inner : Scope) (s : State) → inner.home ≡ place.file
    → Answers (realisation_of inner (at_of place) s (put_env s.stands found) sig) read (Err f)
search_fails place old new found sig names (fault.Diag d) read b e w inner s home =
    bound_is sig names inner place s (put_env s.stands found) e
    ∙ ap (λ m. m >>= λ rows. refuses_where (list_any (is_left rows) sig.bound) 37 inner (at_of place) >>= λ u. gives rows)
    (from_root place old new (Err (fault.Diag d)) found sig.env names b w inner s home)
search_fails place old new found sig names fault.NoMemory read b e w inner s home = tt
