use Rattle.signature_specs.proofs.Valuing.{marks_bind}
use Rattle.signature_specs.proofs.vals.closed_value.Goals as goal

pub make-requires : goal.make-requires
make-requires c = marks_bind c.args.own.now c.in_ok-marks.marks c.args.body c.in_ok-marks.ensures c.requires
