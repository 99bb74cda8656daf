use Rattle.sml_modules.specs.Items.{at, as_env}
use Rattle.realisation.specs.Names.{names_in_env}
use Rattle.interface_restoring.proofs.Agreeing.{none_is, is_none}
use Rattle.interface_restoring.proofs.names.none_bound.Goals as goal

pub returns : goal.returns
returns c =
    let xs = names_in_env (as_env (at c.args.graph.now.items c.args.env)) in (
      λ t. none_is xs c.in_ok-names.names c.in_ok-bound.bound c.in_ok-names.ensures c.in_ok-bound.ensures
          (c.is_empty.ensures.0 t),
      λ h. c.is_empty.ensures.1 (is_none xs c.in_ok-names.names c.in_ok-bound.bound c.in_ok-names.ensures
          c.in_ok-bound.ensures h),
    )
