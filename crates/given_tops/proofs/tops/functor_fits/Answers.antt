use Rattle.std.proofs.Common.{subst}
use Rattle.sml_modules.specs.declared.node.Node.TheVariants as node
use Rattle.sml_modules.specs.Adding.{StandsAt}
use Rattle.type_walks.proofs.Imaging.{if_ok}
use Rattle.given_tops.specs.Names.{nodes_of}
use Rattle.given_tops.proofs.Conditions.{functor_is, functor_unbound, functor_not}
use Rattle.given_tops.proofs.tops.functor_fits.Goals as goal

pub env_fits-requires-clause-env : goal.env_fits-requires-clause-env
env_fits-requires-clause-env c =
    let s : StandsAt c.args.g.now.items c.args.place (node.Functor c.in-Functor.fun) =
    subst (StandsAt c.args.g.now.items c.args.place) c.in-Functor.is c.in-Some.ensures.node in s.node.0

pub env_fits-requires-then-branch-clause-env : goal.env_fits-requires-then-branch-clause-env
env_fits-requires-then-branch-clause-env c =
    let s : StandsAt c.args.g.now.items c.args.place (node.Functor c.in-Functor.fun) =
    subst (StandsAt c.args.g.now.items c.args.place) c.in-Functor.is c.in-Some.ensures.node in s.node.1

pub returns-then-not-binds_in_order-clause-fits : goal.returns-then-not-binds_in_order-clause-fits
returns-then-not-binds_in_order-clause-fits c =
    functor_unbound (nodes_of c.args.limits.now) c.args.g.now.items c.args.place c.in-Functor.fun c.binds_in_order.result
    (subst (StandsAt c.args.g.now.items c.args.place) c.in-Functor.is c.in-Some.ensures.node)
    c.binds_in_order.ensures c.if-not-binds_in_order.true

pub returns-then-branch-clause-fits : goal.returns-then-branch-clause-fits
returns-then-branch-clause-fits c = if_ok c.env_fits-then-branch.result c.env_fits-then-branch.ensures.fits
    (λ b h. functor_is (nodes_of c.args.limits.now) c.args.g.now.items c.args.place c.in-Functor.fun
    c.binds_in_order.result _ b
    (subst (StandsAt c.args.g.now.items c.args.place) c.in-Functor.is c.in-Some.ensures.node)
    c.binds_in_order.ensures c.if-not-binds_in_order.false c.in_ok-env_fits-in-Functor.ensures.fits c.if-branch.true h)

pub returns-else-branch-clause-fits : goal.returns-else-branch-clause-fits
returns-else-branch-clause-fits c =
    functor_not (nodes_of c.args.limits.now) c.args.g.now.items c.args.place c.in-Functor.fun _
    (subst (StandsAt c.args.g.now.items c.args.place) c.in-Functor.is c.in-Some.ensures.node)
    c.in_ok-env_fits-in-Functor.ensures.fits c.if-branch.false
