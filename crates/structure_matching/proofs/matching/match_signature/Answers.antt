use Rattle.std.proofs.Common.{◌≡◌, subst}
use Rattle.type_nodes.specs.Tables.{state}
use Rattle.type_walks.specs.Replaced.{rows_of}
use Rattle.semantic_objects.specs.Environments.{Signature}
use Rattle.sml_modules.specs.Graphs.{env_at, signature_at}
use Rattle.static_semantics.specs.Inferring.{Scope}
use Rattle.static_semantics.specs.EnvironmentsPut.{put_env}
use Rattle.module_semantics.specs.Matching.{matching}
use Rattle.type_phrases.specs.Inferred.{Answers}
use Rattle.structure_matching.specs.declared.matching.Matched.{Matched}
use Rattle.structure_matching.specs.Searching.{at_of}
use Rattle.structure_matching.proofs.Ruled.{matching_sound}
use Rattle.structure_matching.proofs.matching.match_signature.Goals as goal

pub returns-clause-answers : goal.returns-clause-answers
returns-clause-answers c =
    let s = state c.args.t.now in
    subst (λ (sig : Signature). (inner : Scope) → inner.home ≡ c.args.at.now.file
    → Answers (matching inner (at_of c.args.at.now) s (put_env s.stands (env_at c.args.g.now c.args.env)) sig)
    (λ (made : Matched). rows_of made.by.list) c.match_parts.result) c.in_ok-parts.ensures.parts
    c.match_parts.ensures.answers

pub returns-clause-sound : goal.returns-clause-sound
returns-clause-sound c =
    let s = state c.args.t.now in
    matching_sound c.args.at.now s (put_env s.stands (env_at c.args.g.now c.args.env))
    (signature_at c.args.g.now c.args.sig) (λ (made : Matched). rows_of made.by.list) c.match_parts.result
    (subst (λ (sig : Signature). (inner : Scope) → inner.home ≡ c.args.at.now.file
    → Answers (matching inner (at_of c.args.at.now) s (put_env s.stands (env_at c.args.g.now c.args.env)) sig)
    (λ (made : Matched). rows_of made.by.list) c.match_parts.result) c.in_ok-parts.ensures.parts
    c.match_parts.ensures.answers)
