use Rattle.std.proofs.Common.{◌≡◌}
use Rattle.std.specs.Prelude.{Err}
use Rattle.type_nodes.specs.Tables.{state}
use Rattle.realisation.specs.Realised.{realised}
use Rattle.type_walks.specs.declared.replacing.Realisation.{Realisation}
use Rattle.type_walks.specs.Replaced.{put_by, rows_of}
use Rattle.sml_modules.specs.Graphs.{env_at, signature_of}
use Rattle.static_semantics.specs.Inferring.{Scope}
use Rattle.static_semantics.specs.EnvironmentsPut.{put_env}
use Rattle.module_semantics.specs.Matching.{matching}
use Rattle.type_phrases.specs.Inferred.{Answers}
use Rattle.type_phrases.proofs.PartsRead.{passed_on}
use Rattle.structure_matching.specs.declared.matching.Matched.{Matched}
use Rattle.structure_matching.specs.Searching.{at_of}
use Rattle.structure_matching.proofs.Concluding.{no_rows, no_match, from_root}
use Rattle.structure_matching.proofs.matching.match_parts.Goals as goal

pub returns-in_err-by-clause-answers : goal.returns-in_err-by-clause-answers
returns-in_err-by-clause-answers c =
    let g = c.args.g.now in
    let place = c.args.at.now in
    let s = state c.args.t.now in
    let env = put_env s.stands (env_at g c.args.env) in
    let sig = signature_of g c.args.parts.now in
    let fault = c.in_err-by.field-0.0 in
    passed_on (λ r. (inner : Scope) → inner.home ≡ place.file
    → Answers (matching inner (at_of place) s env sig) (λ (made : Matched). rows_of made.by.list) r)
    c.from_residual.result fault c.from_residual.ensures.1
    (λ inner home. no_rows inner place s env sig fault (λ (made : Matched). rows_of made.by.list)
    (λ (by : Realisation). rows_of by.list) (c.in_err-by.ensures inner s home))

pub returns-in_err-enrich_env-clause-answers : goal.returns-in_err-enrich_env-clause-answers
returns-in_err-enrich_env-clause-answers c =
    let g = c.args.g.now in
    let place = c.args.at.now in
    let s = state c.args.t.now in
    let env = put_env s.stands (env_at g c.args.env) in
    let sig = signature_of g c.args.parts.now in
    let rows = rows_of c.in_ok-by.by.list in
    let fault = c.in_err-enrich_env.field-0.0 in
    passed_on (λ r. (inner : Scope) → inner.home ≡ place.file
    → Answers (matching inner (at_of place) s env sig) (λ (made : Matched). rows_of made.by.list) r)
    c.from_residual-in_err-enrich_env.result fault c.from_residual-in_err-enrich_env.ensures.1
    (λ inner home. no_match inner place s env sig rows fault (λ (made : Matched). rows_of made.by.list)
    (c.in_ok-by.ensures inner s home)
    (from_root place s (Err fault) g c.realise.new.graph c.args.env c.in_ok-made.made c.new-path.result
    (realised (put_by c.in_ok-by.by.list) (env_at g c.args.parts.now.env)) c.requires.env c.in_ok-made.ensures.ok
    c.new-path.ensures c.in_err-enrich_env.ensures.enriches inner home))
