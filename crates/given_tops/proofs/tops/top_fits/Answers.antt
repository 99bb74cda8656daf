use Rattle.sml_modules.specs.Graphs.{top_at}
use Rattle.type_walks.proofs.Imaging.{if_ok}
use Rattle.given_tops.specs.Names.{nodes_of}
use Rattle.given_tops.proofs.Rows.{none_fit}
use Rattle.given_tops.proofs.Conditions.{top_says, top_env_not, top_signatures_not, top_functors_not}
use Rattle.given_tops.proofs.tops.top_fits.Goals as goal

pub env_fits-requires-clause-env : goal.env_fits-requires-clause-env
env_fits-requires-clause-env c = c.in_ok-tables.ensures.are.env

pub env_fits-requires-clause-fit : goal.env_fits-requires-clause-fit
env_fits-requires-clause-fit c =
    none_fit (nodes_of c.args.limits.now) c.args.g.now.items c.new-done.result c.new-done.ensures

pub returns-then-not-branch : goal.returns-then-not-branch
returns-then-not-branch c =
    top_env_not (nodes_of c.args.limits.now) c.args.g.now.items (top_at c.args.g.now c.args.given)
    c.in_ok-tables.tables.now c.in_ok-tables.ensures.is _ c.in_ok-env_fits.ensures.fits c.if-not-branch.true

pub returns-then-not-branch-2 : goal.returns-then-not-branch-2
returns-then-not-branch-2 c =
    top_signatures_not (nodes_of c.args.limits.now) c.args.g.now.items (top_at c.args.g.now c.args.given)
    c.in_ok-tables.tables.now c.in_ok-tables.ensures.is _ c.in_ok-signatures_fit.ensures.fits c.if-not-branch-2.true

pub returns-then-branch : goal.returns-then-branch
returns-then-branch c = if_ok c.functors_fit-then-branch.result c.functors_fit-then-branch.ensures.fits
    (λ b h. top_says (nodes_of c.args.limits.now) c.args.g.now.items (top_at c.args.g.now c.args.given)
    c.in_ok-tables.tables.now c.in_ok-tables.ensures.is _ _ _ b c.in_ok-env_fits.ensures.fits c.if-not-branch.false
    c.in_ok-signatures_fit.ensures.fits c.if-not-branch-2.false c.in_ok-functors_fit.ensures.fits c.if-branch.true h)

pub returns : goal.returns
returns c =
    top_functors_not (nodes_of c.args.limits.now) c.args.g.now.items (top_at c.args.g.now c.args.given)
    c.in_ok-tables.tables.now c.in_ok-tables.ensures.is _ c.in_ok-functors_fit.ensures.fits c.if-branch.false
