use Rattle.std.proofs.Common.{◌∙◌, sym, subst}
use Rattle.sml_modules.specs.Graphs.{env_at}
use Rattle.static_semantics.specs.EnvironmentsPut.{put_env}
use Rattle.type_nodes.specs.Tables.{state}
use Rattle.static_semantics.specs.Inferring.{name_at}
use Rattle.type_phrases.specs.Inferred.{Refuses, progress}
use Rattle.known_environments.proofs.Leaving.{none_left, one_left, grows_env}
use Rattle.known_environments.proofs.left.without_variables.Goals as goal

pub returns-clause-answers : goal.returns-clause-answers
returns-clause-answers c inner h = none_left c.args.t.now c.known_env.new.t c.args.g.now c.known_env.new.g inner
    c.args.name.now (env_at c.args.g.now c.args.env) (env_at c.known_env.new.g c.in_ok-known.known)
    c.facts-facts.result c.in_ok-known.ensures.ok.stands c.facts-facts.ensures c.if-facts.false
    c.in_ok-known.ensures.same c.in_ok-known.ensures.ok.made

pub returns-clause-graph : goal.returns-clause-graph
returns-clause-graph c = grows_env c.args.g.now c.known_env.new.g
    (put_env (state c.args.t.now).stands (env_at c.args.g.now c.args.env)) c.in_ok-known.known c.in_ok-known.ensures.ok

pub returns-then-facts-clause-answers : goal.returns-then-facts-clause-answers
returns-then-facts-clause-answers c inner h = one_left c.args.t.now c.args.g.now c.known_env.new.g inner
    c.args.name.now (env_at c.args.g.now c.args.env) (env_at c.known_env.new.g c.in_ok-known.known)
    c.facts-facts.result (λ made. (env_at c.known_env.new.g made, progress c.known_env.new.t c.known_env.new.g))
    c.refusal.result c.in_ok-known.ensures.ok.stands c.facts-facts.ensures c.if-facts.true
    (h ∙ sym c.in_ok-known.ensures.ok.home)
    (subst (λ names. Refuses c.known_env.new.g 42 (name_at c.args.name.now) names c.refusal.result) c.new.ensures
    (subst (λ at. Refuses c.known_env.new.g 42 at c.new.result c.refusal.result) c.place_of.ensures c.refusal.ensures))

pub returns-then-facts-clause-graph : goal.returns-then-facts-clause-graph
returns-then-facts-clause-graph c = grows_env c.args.g.now c.known_env.new.g
    (put_env (state c.args.t.now).stands (env_at c.args.g.now c.args.env)) c.in_ok-known.known c.in_ok-known.ensures.ok
