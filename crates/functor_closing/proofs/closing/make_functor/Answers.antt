use Rattle.std.proofs.Common.{subst}
use Rattle.semantic_objects.specs.Environments.{Functor}
use Rattle.sml_modules.specs.Graphs.{GivesFunctor, env_at}
use Rattle.functor_closing.proofs.Growing.{if_ok, functor_is}
use Rattle.functor_closing.proofs.closing.make_functor.Goals as goal

pub returns-clause-ok : goal.returns-clause-ok
returns-clause-ok c = if_ok c.put_functor.result _ _
    (λ fun f. subst (λ (x : Functor). GivesFunctor c.args.g.now c.put_functor.new.g x fun)
    (functor_is c.args.g.now c.args.param.now c.args.inside.now c.args.names.now c.in_ok-bound.bound
    c.in_ok-closing.closing.further c.in_ok-closing.closing.by.list (env_at c.args.g.now c.args.body)
    c.in_ok-bound.ensures c.in_ok-closing.ensures.further c.in_ok-closing.ensures.rows) f)
    c.put_functor.ensures.ok
