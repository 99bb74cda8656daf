use Rattle.std.proofs.Common.{sym, ◌∙◌}
use Rattle.unification.specs.Plain.{variables_of}
use Rattle.unification.proofs.Steps.{required_here}
use Rattle.unification.proofs.marking.+require.Goals as goal

pub require-returns-in_ok-add-in-Variable : goal.require-returns-in_ok-add-in-Variable
require-returns-in_ok-add-in-Variable t c =
    required_here (variables_of c.args.kinds.now).rigid (variables_of c.args.kinds.now).marks c.args.marked.now
    c.add.new.self c.in-Variable.n c.args.ty.now c.in-Variable.is
    (sym c.is_rigid_by.ensures ∙ c.if-is_rigid_by.false) c.in_ok-add-in-Variable.ensures.ok
