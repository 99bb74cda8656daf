use Rattle.std.proofs.Common.{◌≡◌, sym, ap, ◌∙◌, List}
use Rattle.type_walks.specs.declared.replacing.Realisation.{Realisation}
use Rattle.type_walks.specs.Replaced.{rows_of}
use Rattle.static_semantics.specs.Inferring.{Scope}
use Rattle.static_semantics.specs.EnvironmentsPut.{put_env}
use Rattle.module_semantics.specs.Matching.{matching}
use Rattle.type_phrases.specs.Inferred.{Answers}
use Rattle.type_phrases.proofs.PartsRead.{passed_on}
use Rattle.structure_matching.specs.declared.matching.Matched.{Matched}
use Rattle.semantic_objects.specs.declared.name.TyName.{TyName}
use Rattle.semantic_objects.specs.Environments.{Signature}
use Rattle.type_nodes.specs.Tables.{state}
use Rattle.sml_modules.specs.Graphs.{env_at, signature_at, signature_of, functor_of}
use Rattle.structure_matching.specs.Searching.{at_of}
use Rattle.unit_semantics.specs.StructureInference.{param_of}
use Rattle.module_rules.proofs.Answering.{matching_same, refused_same}
use Rattle.module_rules.proofs.Growing.{stays_behind}
use Rattle.module_rules.proofs.application.match_parameter.Goals as goal

pub match_signature-requires-clause-env : goal.match_signature-requires-clause-env
match_signature-requires-clause-env c = c.in_ok-param.ensures.ok.keeps.has_env c.args.env c.requires.env

pub match_signature-requires-clause-sig : goal.match_signature-requires-clause-sig
match_signature-requires-clause-sig c = c.in_ok-param.ensures.ok.there

pub returns-clause-answers : goal.returns-clause-answers
returns-clause-answers c inner h =
    sym (matching_same inner (at_of c.in_ok-place.place) c.args.at (state c.args.t.now)
    (env_at c.make_sig.new.self c.args.env) (env_at c.args.g.now c.args.env)
    (signature_at c.make_sig.new.self c.in_ok-param.param) (param_of (functor_of c.args.g.now c.args.parts.now))
    c.in_ok-place.ensures.at
    (c.in_ok-param.ensures.ok.keeps.env c.args.env c.requires.env)
    (c.in_ok-param.ensures.ok.stands
    ∙ ap (λ (bound : List TyName). let s : Signature = record {
      bound = bound;
      env = env_at c.args.g.now c.args.parts.now.param;
    } in s) c.in_ok-bound.ensures))
    ∙ c.in_ok-matched.ensures.answers inner (h ∙ sym c.in_ok-place.ensures.file)

pub returns-clause-graph : goal.returns-clause-graph
returns-clause-graph c = stays_behind c.args.g.now c.make_sig.new.self c.match_signature.new.g
    (signature_of c.args.g.now (record { bound = c.in_ok-bound.bound; env = c.args.parts.now.param }))
    c.in_ok-param.param c.in_ok-param.ensures.ok c.in_ok-matched.ensures.graph

pub returns-in_err-matched-clause-answers : goal.returns-in_err-matched-clause-answers
returns-in_err-matched-clause-answers c =
    let fault = c.in_err-matched.field-0.0 in
    passed_on (λ r. (inner : Scope) → inner.home ≡ c.args.g.now.home
    → Answers (matching inner c.args.at (state c.args.t.now)
    (put_env (state c.args.t.now).stands (env_at c.args.g.now c.args.env))
    (param_of (functor_of c.args.g.now c.args.parts.now))) (λ (by : Realisation). rows_of by.list) r)
    c.from_residual-in_err-matched.result fault c.from_residual-in_err-matched.ensures.1
    (λ inner h. refused_same
    (matching inner (at_of c.in_ok-place.place) (state c.args.t.now)
    (put_env (state c.args.t.now).stands (env_at c.make_sig.new.self c.args.env))
    (signature_at c.make_sig.new.self c.in_ok-param.param))
    (matching inner c.args.at (state c.args.t.now)
    (put_env (state c.args.t.now).stands (env_at c.args.g.now c.args.env))
    (param_of (functor_of c.args.g.now c.args.parts.now)))
    (λ (made : Matched). rows_of made.by.list) (λ (by : Realisation). rows_of by.list) fault
    (matching_same inner (at_of c.in_ok-place.place) c.args.at (state c.args.t.now)
    (env_at c.make_sig.new.self c.args.env) (env_at c.args.g.now c.args.env)
    (signature_at c.make_sig.new.self c.in_ok-param.param) (param_of (functor_of c.args.g.now c.args.parts.now))
    c.in_ok-place.ensures.at
    (c.in_ok-param.ensures.ok.keeps.env c.args.env c.requires.env)
    (c.in_ok-param.ensures.ok.stands
    ∙ ap (λ (bound : List TyName). let s : Signature = record {
      bound = bound;
      env = env_at c.args.g.now c.args.parts.now.param;
    } in s) c.in_ok-bound.ensures))
    (c.in_err-matched.ensures.answers inner (h ∙ sym c.in_ok-place.ensures.file)))
