use Rattle.signature_specs.proofs.Typing.{args_counted}
use Rattle.signature_specs.proofs.own_types.own_tree.Goals as goal

pub make-requires : goal.make-requires
make-requires c =
    args_counted c.args.name.now c.in_ok-copy.field-0 c.in_ok-args.args c.in_ok-args.ensures c.in_ok-copy.ensures
