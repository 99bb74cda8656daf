use Rattle.std.proofs.Common.{subst}
use Rattle.core_scopes.proofs.Pathing.{if_ok}
use Rattle.declaration_ends.specs.Leaving.{IsAdded}
use Rattle.declaration_ends.proofs.Walking.{stepped_in, stepped_over}
use Rattle.declaration_ends.proofs.leaving.step.Goals as goal

pub returns-then-added : goal.returns-then-added
returns-then-added c =
    if_ok c.enter.result _ _
    (λ found h. stepped_in c.args.t.now c.args.home.now c.args.from c.args.to c.args.id c.args.passed.now
    c.add.new.self c.args.ids.now c.enter.new.ids found
    (subst (λ b. IsAdded c.args.passed.now c.args.id b c.add.new.self) c.if-added.true c.in_ok-added.ensures) h)
    c.enter.ensures

pub returns-else-added : goal.returns-else-added
returns-else-added c =
    let there = subst (λ b. IsAdded c.args.passed.now c.args.id b c.add.new.self) c.if-added.false c.in_ok-added.ensures in
    stepped_over c.args.t.now c.args.home.now c.args.from c.args.to c.args.id c.args.passed.now c.add.new.self
    c.args.ids.now there.0 there.1
