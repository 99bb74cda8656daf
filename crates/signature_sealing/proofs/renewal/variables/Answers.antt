use Rattle.std.proofs.Common.{◌+◌, refl, ◌∙◌}
use Rattle.signature_sealing.proofs.Naming.{one_variable_more}
use Rattle.signature_sealing.proofs.renewal.variables.Goals as goal

pub loop-at-preserved : goal.loop-at-preserved
loop-at-preserved c = c.in_ok-add.ensures.ok ∙ one_variable_more c.loop-at.at (c.loop-at.at + 1) c.loop-at.trees
    c.in_ok-make.field-0 c.loop-at.invariant c.in_ok-make.ensures refl
