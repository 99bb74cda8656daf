use Rattle.std.proofs.Common.{◌+◌, drop}
use Rattle.semantic_objects.specs.Environments.{empty_env}
use Rattle.static_semantics.specs.CoreInference.{infer_open}
use Rattle.type_phrases.specs.Inferred.{Answers, scope_in}
use Rattle.type_phrases.proofs.PartsRead.{passed_on, drop_item, drop_end}
use Rattle.open_declarations.specs.Opened.{opened_env}
use Rattle.open_declarations.proofs.Opening.{found_none, found_more, found_refused, found_all}
use Rattle.open_declarations.proofs.names.found_envs.Goals as goal

pub loop-long-init : goal.loop-long-init
loop-long-init g c =
    found_none c.args.g.now (λ t read. scope_in c.args.g.now t read c.args.scope.now) c.args.longs.now
    c.new-envs.result c.new-envs.ensures

pub loop-long-preserved : goal.loop-long-preserved
loop-long-preserved g c =
    let longs = c.args.longs.now in
    let i = c.loop-long.long-index in
    found_more c.args.g.now (λ t read. scope_in c.args.g.now t read c.args.scope.now) longs (drop i longs)
    (drop (i + 1) longs) c.long-item.result c.loop-long.envs c.add.new.self c.in_ok-env.env c.loop-long.invariant
    (drop_item longs i c.long-item.result c.loop-long-test.true c.long-item.is) (λ t read. c.in_ok-env.ensures.infers t read)
    c.in_ok-env.ensures.there c.in_ok-add.ensures.ok

pub returns-in_err-env-clause-infers : goal.returns-in_err-env-clause-infers
returns-in_err-env-clause-infers g c = λ t read.
    let longs = c.args.longs.now in
    let i = c.loop-long.long-index in
    passed_on (λ r. Answers (infer_open (scope_in c.args.g.now t read c.args.scope.now) c.args.longs.now empty_env)
    (opened_env c.args.g.now) r) c.from_residual.result c.in_err-env.field-0.0 c.from_residual.ensures.1
    (found_refused c.args.g.now (λ t read. scope_in c.args.g.now t read c.args.scope.now) longs (drop i longs)
    (drop (i + 1) longs) c.long-item.result c.loop-long.envs c.in_err-env.field-0.0 c.loop-long.invariant
    (drop_item longs i c.long-item.result c.loop-long-test.true c.long-item.is)
    (λ t read. c.in_err-env.ensures.infers t read) t read)

pub returns-clause-infers : goal.returns-clause-infers
returns-clause-infers g c = λ t read.
    found_all c.args.g.now (λ t read. scope_in c.args.g.now t read c.args.scope.now) c.args.longs.now
    (drop c.loop-long.long-index c.args.longs.now) c.loop-long.envs c.loop-long.invariant
    (drop_end c.args.longs.now c.loop-long.long-index c.loop-long-test.false) t read
