use Rattle.std.proofs.Common.{refl, ap, Some}
use Rattle.unification.specs.Plain.{state_of, type_of, wanted_marks}
use Rattle.unification.proofs.Steps.{assigned_is, required_true}
use Rattle.unification.proofs.unifier.Unifier.assign.Goals as goal

pub returns : goal.returns
returns c =
    ap Some (assigned_is c.args.variable c.args.to.now c.in_ok-to.to c.args.self.now c.admit.new.self
    (record { kinds = c.admit.new.self.kinds; bindings = c.add.new.self; marked = c.admit.new.self.marked })
    c.in_ok-admit.ensures.kinds c.in_ok-admit.ensures.bindings
    (required_true c.in_ok-admit.field-0
    (wanted_marks (state_of c.args.self.now) c.args.variable (type_of c.args.to.now))
    (state_of c.admit.new.self).marks c.if-not-branch.false c.in_ok-admit.ensures.marks)
    c.in_ok-to.ensures refl refl c.in_ok-add.ensures.ok)
