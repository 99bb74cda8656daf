-- What matching gives, the rules allow.
use Rattle.std.proofs.Common.{◌≡◌, [], refl, subst}
use Rattle.std.specs.Prelude.{Result, Ok, Err, IfOk}
use Rattle.cm_base.specs.declared.diag.Place.{Place}
use Rattle.cm_base.specs.declared.fault.Fault.{Fault}
use Rattle.semantic_objects.specs.Environments.{Env, Signature, empty_env}
use Rattle.unification.specs.Types.{State}
use Rattle.realisation.specs.Realised.{of_rows, realised}
use Rattle.static_semantics.specs.Inferring.{Scope, gives}
use Rattle.static_semantics.specs.Holding.{Given, AllItems}
use Rattle.module_semantics.specs.Matching.{Rows, items, matching}
use Rattle.module_semantics.specs.Promises.{IsItemOf}
use Rattle.module_semantics.specs.ElaboratesSignatures.{Matches}
use Rattle.module_semantics.proofs.Sound.{matches_by_rules}
use Rattle.type_phrases.specs.Inferred.{Answers}
use Rattle.structure_matching.specs.declared.matching.Matched.{Matched}
use Rattle.structure_matching.specs.Searching.{at_of}
use Rattle.structure_matching.specs.Matches.{IsMatchedBy}

abbrev nothing_at : Place → Scope
nothing_at place = record { env = empty_env; written = []; home = place.file }

pub matching_sound : (place : Place) (s : State) (env : Env) (sig : Signature) (read : Matched → Rows)
    (r : Result Matched Fault)
    → ((inner : Scope) → inner.home ≡ place.file → Answers (matching inner (at_of place) s env sig) read r)
    → IfOk r (λ made. IsMatchedBy s env sig (of_rows (read made)))
matching_sound place s env sig read (Err f) h = tt
matching_sound place s env sig read (Ok made) h = λ of specified.
    subst (Given (λ rows. AllItems (IsItemOf s) (items (realised (of_rows rows) sig.env)) → Matches s env sig (of_rows rows)))
    (h (nothing_at place) refl) (matches_by_rules (nothing_at place) (at_of place) s env sig of) specified
