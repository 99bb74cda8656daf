use Rattle.std.proofs.Common.{sym, ap, ◌∙◌}
use Rattle.semantic_objects.specs.Environments.{Env}
use Rattle.type_nodes.specs.Tables.{state}
use Rattle.sml_modules.specs.Graphs.{env_at, signature_at}
use Rattle.static_semantics.specs.Inferring.{Progress, gives}
use Rattle.static_semantics.specs.EnvironmentsPut.{put_env}
use Rattle.module_semantics.specs.Matching.{matched}
use Rattle.type_phrases.specs.Inferred.{progress}
use Rattle.structure_matching.specs.Searching.{at_of}
use Rattle.module_rules.proofs.Answering.{answers_then, matched_at, progress_same}
use Rattle.module_rules.proofs.transparent.match_structure.Goals as goal

pub returns-clause-answers : goal.returns-clause-answers
returns-clause-answers c inner h =
    let s = state c.args.t.now in
    let e = put_env (state c.args.t.now).stands (env_at c.args.g.now c.args.env) in
    let sig = signature_at c.args.g.now c.args.sig in
    answers_then (matched inner c.args.at s e sig) (λ (made : Env). gives (made, progress c.args.t.now c.args.g.now))
    (env_at c.matches.new.g) (λ made. (env_at c.matches.new.g made, progress c.matches.new.t c.matches.new.g))
    c.matches.result
    (λ x. ap (λ (p : Progress). gives (env_at c.matches.new.g x, p))
    (progress_same c.args.t.now c.matches.new.t c.args.g.now c.matches.new.g c.matches.ensures.table
    c.matches.ensures.graph.made))
    (matched_at inner (at_of c.in_ok-place.place) c.args.at s e sig (env_at c.matches.new.g) c.matches.result
    c.in_ok-place.ensures.at (c.matches.ensures.answers inner (h ∙ sym c.in_ok-place.ensures.file)))
