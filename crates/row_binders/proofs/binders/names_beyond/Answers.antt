use Rattle.sml_modules.specs.Items.{at, as_env}
use Rattle.row_binders.proofs.Bound.{beyond_met}
use Rattle.row_binders.proofs.binders.names_beyond.Goals as goal

pub returns : goal.returns
returns c =
    beyond_met (as_env (at c.args.graph.now.items c.args.env)) c.args.bound.now c.in_ok-names.names
    c.in_ok-functor_names.field-0.further c.in_ok-names.ensures c.in_ok-functor_names.ensures.further
