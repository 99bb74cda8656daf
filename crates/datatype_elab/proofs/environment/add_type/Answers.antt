use Rattle.std.proofs.Common.{refl}
use Rattle.datatype_elab.proofs.Binding.{type_bound}
use Rattle.datatype_elab.proofs.environment.add_type.Goals as goal

pub returns : goal.returns
returns g c =
    type_bound c.args.made c.args.name c.args.entry c.in_ok-cons.field-0 c.add.new.self c.add_values.new.values
    c.in_ok-cons.field-0.cons c.in_ok-add.ensures.ok c.in_ok-add_values.ensures refl c.in_ok-cons.ensures
