use Rattle.std.proofs.Common.{subst}
use Rattle.sml_modules.specs.Nodes.{IsNodeAfter}
use Rattle.sml_modules.specs.Adding.{StandsAt}
use Rattle.type_walks.proofs.Imaging.{if_ok}
use Rattle.given_tops.specs.Names.{nodes_of}
use Rattle.given_tops.proofs.Conditions.{signature_is, signature_not}
use Rattle.given_tops.proofs.tops.signature_fits.Goals as goal

pub env_fits-requires-clause-env : goal.env_fits-requires-clause-env
env_fits-requires-clause-env c =
    subst (IsNodeAfter c.args.g.now.items) c.in-Signature.is c.in-Some.ensures.node.node

pub returns-then-are_bound_from-clause-fits : goal.returns-then-are_bound_from-clause-fits
returns-then-are_bound_from-clause-fits c = if_ok c.env_fits.result c.env_fits.ensures.fits
    (λ b h. signature_is (nodes_of c.args.limits.now) c.args.g.now.items c.args.place c.in-Signature.sig
    c.are_bound_from.result b (subst (StandsAt c.args.g.now.items c.args.place) c.in-Signature.is c.in-Some.ensures.node)
    c.are_bound_from.ensures c.if-are_bound_from.true h)

pub returns-else-are_bound_from-clause-fits : goal.returns-else-are_bound_from-clause-fits
returns-else-are_bound_from-clause-fits c =
    signature_not (nodes_of c.args.limits.now) c.args.g.now.items c.args.place c.in-Signature.sig
    c.are_bound_from.result (subst (StandsAt c.args.g.now.items c.args.place) c.in-Signature.is c.in-Some.ensures.node)
    c.are_bound_from.ensures c.if-are_bound_from.false
