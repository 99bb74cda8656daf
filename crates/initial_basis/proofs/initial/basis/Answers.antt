use Rattle.initial_basis.specs.Basis.{basis_env}
use Rattle.semantic_objects.specs.Environments.{empty_top}
use Rattle.initial_basis.proofs.Adding.{adds_err, adds_then, env_adds, top_adds, env_still, top_ok}
use Rattle.initial_basis.proofs.initial.basis.Goals as goal

pub with_env-requires-clause-env : goal.with_env-requires-clause-env
with_env-requires-clause-env c =
    env_still c.basis_env.new.g c.empty_top.new.self empty_top c.in_ok-top.top c.in_ok-env.env c.in_ok-top.ensures.ok
    c.in_ok-env.ensures.ok.there

pub returns-clause-ok : goal.returns-clause-ok
returns-clause-ok c =
    top_ok c.args.g.now c.basis_env.new.g c.empty_top.new.self c.with_env.new.self (basis_env c.args.options.nobasis)
    c.in_ok-env.env c.in_ok-top.top c.with_env.result c.in_ok-env.ensures.ok c.in_ok-top.ensures.ok c.with_env.ensures.ok

pub returns-clause-err : goal.returns-clause-err
returns-clause-err c =
    adds_err c.args.g.now c.empty_top.new.self c.with_env.new.self c.with_env.result
    (adds_then c.args.g.now c.basis_env.new.g c.empty_top.new.self
    (env_adds c.args.g.now c.basis_env.new.g (basis_env c.args.options.nobasis) c.in_ok-env.env c.in_ok-env.ensures.ok)
    (top_adds c.basis_env.new.g c.empty_top.new.self empty_top c.in_ok-top.top c.in_ok-top.ensures.ok))
    c.with_env.ensures.err
