use Rattle.initial_basis.proofs.Binding.{below_same}
use Rattle.initial_basis.proofs.phrases.scheme_of.Goals as goal

pub make-requires : goal.make-requires
make-requires c =
    below_same c.args.names.now c.args.words.now c.in_ok-marks.marks c.in_ok-body.body c.in_ok-marks.ensures
    c.in_ok-body.ensures
