use Rattle.std.proofs.Common.{◌≡◌, sym, ap, ◌∙◌}
use Rattle.semantic_objects.specs.Environments.{Env}
use Rattle.sml_modules.specs.declared.id.EnvId.{EnvId}
use Rattle.type_nodes.specs.Tables.{state}
use Rattle.sml_modules.specs.Graphs.{env_at, signature_at}
use Rattle.static_semantics.specs.Inferring.{Progress, Scope, Answer, ◌>>=◌, gives}
use Rattle.static_semantics.specs.EnvironmentsPut.{put_env}
use Rattle.module_semantics.specs.SignatureNames.{sealed}
use Rattle.module_semantics.specs.Matching.{matched}
use Rattle.type_phrases.specs.Inferred.{Answers, progress}
use Rattle.type_phrases.proofs.PartsRead.{passed_on}
use Rattle.type_phrases.proofs.Steps.{failed}
use Rattle.unit_semantics.specs.StructureInference.{opaque}
use Rattle.structure_matching.specs.Searching.{at_of}
use Rattle.module_rules.proofs.Answering.{refused_same}
use Rattle.module_rules.proofs.Renewing.{sealed_is, grows_sealed}
use Rattle.module_rules.proofs.opaque.seal_structure.Goals as goal

pub returns-clause-answers : goal.returns-clause-answers
returns-clause-answers c inner h =
    let s = state c.args.t.now in
    let e = put_env (state c.args.t.now).stands (env_at c.args.g.now c.args.env) in
    let sig = signature_at c.args.g.now c.args.sig in
    let m : matched inner c.args.at s e sig ≡ gives (env_at c.matches.new.g c.in_ok-matches.field-0) =
    ap (λ at. matched inner at (state c.args.t.now)
    (put_env (state c.args.t.now).stands (env_at c.args.g.now c.args.env))
    (signature_at c.args.g.now c.args.sig)) (sym c.in_ok-place.ensures.at)
    ∙ c.in_ok-matches.ensures.answers inner (h ∙ sym c.in_ok-place.ensures.file) in
    ap (λ (w : Answer Env). w >>= λ made. gives (sealed inner.home (signature_at c.args.g.now c.args.sig)
    (progress c.args.t.now c.args.g.now))) m
    ∙ ap (λ (r : Env × Progress). gives r)
    (sealed_is c.args.t.now c.matches.new.t c.args.g.now c.matches.new.g c.seal.new.g inner.home sig
    (signature_at c.matches.new.g c.args.sig) c.in_ok-made.made (h ∙ sym c.in_ok-matches.ensures.graph.home)
    (c.in_ok-matches.ensures.graph.keeps.signature c.args.sig c.requires.sig) c.in_ok-matches.ensures.table
    c.in_ok-matches.ensures.graph.made c.in_ok-made.ensures.ok)

pub returns-clause-graph : goal.returns-clause-graph
returns-clause-graph c = grows_sealed c.args.g.now c.matches.new.g c.seal.new.g (signature_at c.matches.new.g c.args.sig)
    c.in_ok-made.made c.in_ok-matches.ensures.graph c.in_ok-made.ensures.ok

pub returns-in_err-matches-clause-answers : goal.returns-in_err-matches-clause-answers
returns-in_err-matches-clause-answers c =
    let fault = c.in_err-matches.field-0.0 in
    passed_on (λ r. (inner : Scope) → inner.home ≡ c.args.g.now.home
    → Answers (opaque inner c.args.at (env_at c.args.g.now c.args.env)
    (signature_at c.args.g.now c.args.sig, progress c.args.t.now c.args.g.now))
    (λ (made : EnvId). (env_at c.matches.new.g made, progress c.matches.new.t c.matches.new.g)) r)
    c.from_residual-in_err-matches.result fault c.from_residual-in_err-matches.ensures.1
    (λ inner h. failed
    (matched inner c.args.at (state c.args.t.now)
    (put_env (state c.args.t.now).stands (env_at c.args.g.now c.args.env)) (signature_at c.args.g.now c.args.sig))
    (λ made. gives (sealed inner.home (signature_at c.args.g.now c.args.sig) (progress c.args.t.now c.args.g.now)))
    (env_at c.matches.new.g)
    (λ (made : EnvId). (env_at c.matches.new.g made, progress c.matches.new.t c.matches.new.g)) fault
    (refused_same
    (matched inner (at_of c.in_ok-place.place) (state c.args.t.now)
    (put_env (state c.args.t.now).stands (env_at c.args.g.now c.args.env)) (signature_at c.args.g.now c.args.sig))
    (matched inner c.args.at (state c.args.t.now)
    (put_env (state c.args.t.now).stands (env_at c.args.g.now c.args.env)) (signature_at c.args.g.now c.args.sig))
    (env_at c.matches.new.g) (env_at c.matches.new.g) fault
    (ap (λ at. matched inner at (state c.args.t.now)
    (put_env (state c.args.t.now).stands (env_at c.args.g.now c.args.env))
    (signature_at c.args.g.now c.args.sig)) c.in_ok-place.ensures.at)
    (c.in_err-matches.ensures.answers inner (h ∙ sym c.in_ok-place.ensures.file))))
