use Rattle.std.proofs.Common.{List, Bool, length, subst, sym}
use Rattle.semantic_objects.specs.Trees.{BindsBelow}
use Rattle.signature_specs.proofs.exceptions.open_exception.Goals as goal

pub make-requires : goal.make-requires
make-requires c =
    subst (λ (marks : List Bool). BindsBelow (length marks) c.args.body) (sym c.new-marks.ensures) c.requires
