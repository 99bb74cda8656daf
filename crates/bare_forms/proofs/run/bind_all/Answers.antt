use Rattle.std.proofs.Common.{◌∙◌}
use Rattle.bare_forms.proofs.Bound.{strength_step}
use Rattle.bare_forms.proofs.run.bind_all.Goals as goal

pub loop-strength-preserved : goal.loop-strength-preserved
loop-strength-preserved g c =
    strength_step g.A.Operand.joined c.loop-strength.strength c.loop-strength.before.items c.loop-strength.last
    c.in_ok-first.first c.in_ok-first.after.items c.in_ok-before.field-0-0.items c.in_ok-before.field-0-1
    c.loop-strength-test.true c.in_ok-first.ensures.first c.in_ok-first.ensures.after
    c.in_ok-before.ensures.before c.in_ok-before.ensures.last
    ∙ c.loop-strength.invariant
