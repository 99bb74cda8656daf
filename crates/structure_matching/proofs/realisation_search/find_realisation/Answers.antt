use Rattle.std.proofs.Common.{◌≡◌}
use Rattle.unification.specs.Types.{State}
use Rattle.type_walks.specs.declared.replacing.Realisation.{Realisation}
use Rattle.type_walks.specs.Replaced.{rows_of}
use Rattle.sml_modules.specs.Graphs.{env_at, signature_of}
use Rattle.static_semantics.specs.Inferring.{Scope}
use Rattle.static_semantics.specs.EnvironmentsPut.{put_env}
use Rattle.module_semantics.specs.Matching.{realisation_of}
use Rattle.type_phrases.specs.Inferred.{Answers}
use Rattle.type_phrases.proofs.PartsRead.{passed_on}
use Rattle.structure_matching.specs.Searching.{at_of}
use Rattle.structure_matching.proofs.RealisingAll.{search_fails}
use Rattle.structure_matching.proofs.realisation_search.find_realisation.Goals as goal

pub returns-in_err-realise_env : goal.returns-in_err-realise_env
returns-in_err-realise_env c =
    let g = c.args.g.now in
    let place = c.args.at.now in
    let fault = c.in_err-realise_env.field-0.0 in
    passed_on (λ r. (inner : Scope) (s : State) → inner.home ≡ place.file
    → Answers (realisation_of inner (at_of place) s (put_env s.stands (env_at g c.args.env)) (signature_of g c.args.sig.now))
    (λ (by : Realisation). rows_of by.list) r) c.from_residual-in_err-realise_env.result fault
    c.from_residual-in_err-realise_env.ensures.1
    (search_fails place c.in_ok-search.search c.realise_env.new.search (env_at g c.args.env)
    (signature_of g c.args.sig.now) c.as_slice.result.now fault (λ (by : Realisation). rows_of by.list)
    c.in_ok-search.ensures c.as_slice.ensures c.in_err-realise_env.ensures.realises)
