use Rattle.std.proofs.Common.{◌≡◌}
use Rattle.type_nodes.specs.Tables.{state}
use Rattle.type_walks.specs.Replaced.{put_by, rows_of}
use Rattle.sml_modules.specs.Graphs.{env_at, signature_at}
use Rattle.static_semantics.specs.Inferring.{Scope}
use Rattle.static_semantics.specs.EnvironmentsPut.{put_env}
use Rattle.module_semantics.specs.Matching.{matched}
use Rattle.type_phrases.specs.Inferred.{Answers}
use Rattle.type_phrases.proofs.PartsRead.{passed_on}
use Rattle.structure_matching.specs.declared.matching.Matched.{Matched}
use Rattle.structure_matching.specs.Searching.{at_of}
use Rattle.structure_matching.proofs.Concluding.{not_matched}
use Rattle.structure_matching.proofs.matching.matches.Goals as goal

pub returns-in_err-match_signature-clause-answers :
    goal.returns-in_err-match_signature-clause-answers
returns-in_err-match_signature-clause-answers c =
    let g = c.args.g.now in
    let place = c.args.at.now in
    let s = state c.args.t.now in
    let env = put_env s.stands (env_at g c.args.env) in
    let sig = signature_at g c.args.sig in
    let fault = c.in_err-match_signature.field-0.0 in
    passed_on (λ r. (inner : Scope) → inner.home ≡ place.file
    → Answers (matched inner (at_of place) s env sig) (env_at c.match_signature.new.g) r)
    c.from_residual.result fault c.from_residual.ensures.1
    (λ inner home. not_matched inner place s env sig fault (λ (made : Matched). rows_of made.by.list)
    (env_at c.match_signature.new.g) (c.in_err-match_signature.ensures.answers inner home))

pub returns-clause-sound : goal.returns-clause-sound
returns-clause-sound c = record {
  by = put_by c.in_ok-match_signature.field-0.by.list;
  is = c.in_ok-match_signature.ensures.gives.stands;
  matches = c.in_ok-match_signature.ensures.sound;
}
