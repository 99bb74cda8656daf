use Rattle.initial_basis.proofs.Adding.{adds_err, env_ok}
use Rattle.initial_basis.proofs.initial.basis_env.Goals as goal

pub returns-clause-ok : goal.returns-clause-ok
returns-clause-ok c =
    env_ok c.args.g.now c.structures_of.new.g c.make_env.new.self c.args.options.nobasis c.in_ok-structures.structures
    c.in_ok-types.types c.in_ok-values.values c.make_env.result c.in_ok-structures.ensures.ok c.in_ok-types.ensures
    c.in_ok-values.ensures c.make_env.ensures.ok

pub returns-clause-err : goal.returns-clause-err
returns-clause-err c =
    adds_err c.args.g.now c.structures_of.new.g c.make_env.new.self c.make_env.result c.in_ok-structures.ensures.ok.adds
    c.make_env.ensures.err
