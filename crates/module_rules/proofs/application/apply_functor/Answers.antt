use Rattle.std.proofs.Common.{◌≡◌, sym, ap, ◌∙◌}
use Rattle.semantic_objects.specs.Environments.{Env, Functor}
use Rattle.type_nodes.specs.Tables.{state}
use Rattle.type_walks.specs.declared.replacing.Realisation.{Realisation}
use Rattle.type_walks.specs.Replaced.{rows_of}
use Rattle.sml_modules.specs.declared.id.EnvId.{EnvId}
use Rattle.sml_modules.specs.Graphs.{env_at, functor_at, functor_of}
use Rattle.static_semantics.specs.Inferring.{Progress, Scope, Answer, ◌>>=◌, gives}
use Rattle.static_semantics.specs.EnvironmentsPut.{put_env}
use Rattle.module_semantics.specs.Matching.{Rows, matching}
use Rattle.type_phrases.specs.Inferred.{Answers, progress}
use Rattle.type_phrases.proofs.PartsRead.{passed_on}
use Rattle.type_phrases.proofs.Steps.{failed}
use Rattle.unit_semantics.specs.StructureInference.{functor_applied, param_of, result_by}
use Rattle.module_rules.proofs.Answering.{refused_same}
use Rattle.module_rules.proofs.Renewing.{result_is, grows_renewed}
use Rattle.module_rules.proofs.application.apply_functor.Goals as goal

pub renewed_result-requires : goal.renewed_result-requires
renewed_result-requires c = c.in_ok-by.ensures.graph.keeps.has_env c.in_ok-parts.parts.result c.in_ok-parts.ensures.there.1

pub returns-clause-answers : goal.returns-clause-answers
returns-clause-answers c inner h =
    ap (λ (f : Functor). matching inner c.args.at (state c.args.t.now)
    (put_env (state c.args.t.now).stands (env_at c.args.g.now c.args.env)) (param_of f)
    >>= λ rows. gives (result_by inner.home (functor_at c.args.g.now c.args.fun) rows
    (progress c.args.t.now c.args.g.now))) (sym c.in_ok-parts.ensures.parts)
    ∙ ap (λ (w : Answer Rows). w >>= λ rows. gives (result_by inner.home (functor_at c.args.g.now c.args.fun) rows
    (progress c.args.t.now c.args.g.now))) (c.in_ok-by.ensures.answers inner h)
    ∙ ap (λ (r : Env × Progress). gives r)
    (result_is c.args.t.now c.match_parameter.new.t c.args.g.now c.match_parameter.new.g c.renewed_result.new.g inner.home
    c.in_ok-parts.parts (rows_of c.in_ok-by.by.list) (functor_at c.args.g.now c.args.fun) c.in_ok-made.made
    c.in_ok-parts.ensures.parts c.in_ok-parts.ensures.there.1 (h ∙ sym c.in_ok-by.ensures.graph.home)
    c.in_ok-by.ensures.table c.in_ok-by.ensures.graph c.in_ok-made.ensures.ok)

pub returns-clause-graph : goal.returns-clause-graph
returns-clause-graph c = grows_renewed c.args.g.now c.match_parameter.new.g c.renewed_result.new.g
    c.in_ok-parts.parts.further (rows_of c.in_ok-by.by.list) (env_at c.match_parameter.new.g c.in_ok-parts.parts.result)
    c.in_ok-made.made c.in_ok-by.ensures.graph c.in_ok-made.ensures.ok

pub returns-in_err-by-clause-answers : goal.returns-in_err-by-clause-answers
returns-in_err-by-clause-answers c =
    let fault = c.in_err-by.field-0.0 in
    passed_on (λ r. (inner : Scope) → inner.home ≡ c.args.g.now.home
    → Answers (functor_applied inner c.args.at (functor_at c.args.g.now c.args.fun)
    (env_at c.args.g.now c.args.env, progress c.args.t.now c.args.g.now))
    (λ (made : EnvId). (env_at c.match_parameter.new.g made, progress c.match_parameter.new.t c.match_parameter.new.g)) r)
    c.from_residual-in_err-by.result fault c.from_residual-in_err-by.ensures.1
    (λ inner h. failed
    (matching inner c.args.at (state c.args.t.now)
    (put_env (state c.args.t.now).stands (env_at c.args.g.now c.args.env))
    (param_of (functor_at c.args.g.now c.args.fun)))
    (λ rows. gives (result_by inner.home (functor_at c.args.g.now c.args.fun) rows (progress c.args.t.now c.args.g.now)))
    (λ (by : Realisation). rows_of by.list)
    (λ (made : EnvId). (env_at c.match_parameter.new.g made, progress c.match_parameter.new.t c.match_parameter.new.g))
    fault
    (refused_same
    (matching inner c.args.at (state c.args.t.now)
    (put_env (state c.args.t.now).stands (env_at c.args.g.now c.args.env))
    (param_of (functor_of c.args.g.now c.in_ok-parts.parts)))
    (matching inner c.args.at (state c.args.t.now)
    (put_env (state c.args.t.now).stands (env_at c.args.g.now c.args.env))
    (param_of (functor_at c.args.g.now c.args.fun)))
    (λ (by : Realisation). rows_of by.list) (λ (by : Realisation). rows_of by.list) fault
    (ap (λ (f : Functor). matching inner c.args.at (state c.args.t.now)
    (put_env (state c.args.t.now).stands (env_at c.args.g.now c.args.env)) (param_of f)) c.in_ok-parts.ensures.parts)
    (c.in_err-by.ensures.answers inner h)))
