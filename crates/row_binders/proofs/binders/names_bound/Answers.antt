use Rattle.type_walks.proofs.Imaging.{if_ok}
use Rattle.sml_modules.specs.Items.{at, as_env}
use Rattle.row_binders.proofs.Bound.{bound_met}
use Rattle.row_binders.proofs.binders.names_bound.Goals as goal

pub returns : goal.returns
returns c =
    if_ok c.bound_names.result c.bound_names.ensures
    (λ bound h. bound_met (as_env (at c.args.graph.now.items c.args.env)) c.in_ok-names.names bound c.in_ok-names.ensures h)
