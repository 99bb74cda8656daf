use Rattle.std.proofs.Common.{sym, subst, arith}
use Rattle.interface_reading.specs.Meeting.{AwaitsItem}
use Rattle.interface_reading.proofs.Awaited.{on_ok_then, item_part, item_named, item_value}
use Rattle.interface_reading.specs.declared.needs.Need.TheVariants as need
use Rattle.interface_reading.proofs.Opens.{needs_added}
use Rattle.interface_reading.proofs.open.add_item.Goals as goal

pub returns-in-Parts-clause-awaits : goal.returns-in-Parts-clause-awaits
returns-in-Parts-clause-awaits c =
    subst (λ l. AwaitsItem l c.args.needs.now c.add.new.self) (sym c.in-Parts.is)
    (item_part c.args.needs.now c.add.new.self c.in_ok-add.ensures.ok)

pub returns-in-Named-clause-awaits : goal.returns-in-Named-clause-awaits
returns-in-Named-clause-awaits c =
    on_ok_then c.add-in-Named.result c.add-in-Named.ensures.ok
    (λ e. subst (λ l. AwaitsItem l c.args.needs.now c.add-in-Named.new.self) (sym c.in-Named.is)
    (item_named c.args.needs.now c.add.new.self c.add-in-Named.new.self c.in_ok-add.ensures.ok e))

pub returns-in_ok-add-in-Values-clause-awaits : goal.returns-in_ok-add-in-Values-clause-awaits
returns-in_ok-add-in-Values-clause-awaits c =
    on_ok_then c.add-in-Values-2.result c.add-in-Values-2.ensures.ok
    (λ e. subst (λ l. AwaitsItem l c.args.needs.now c.add-in-Values-2.new.self) (sym c.in-Values.is)
    (item_value c.args.needs.now c.add.new.self c.add-in-Values.new.self c.add-in-Values-2.new.self
    c.in_ok-add.ensures.ok c.in_ok-add-in-Values.ensures.ok e))

pub returns-in-Parts-clause-few : goal.returns-in-Parts-clause-few
returns-in-Parts-clause-few c =
    let one = needs_added c.args.needs.now c.add.new.self need.Part c.in_ok-add.ensures.ok in
    omega (arith, one)

pub returns-in-Named-clause-few : goal.returns-in-Named-clause-few
returns-in-Named-clause-few c =
    let one = needs_added c.args.needs.now c.add.new.self need.Part c.in_ok-add.ensures.ok in
    on_ok_then c.add-in-Named.result c.add-in-Named.ensures.ok
    (λ e. (let two = needs_added c.add.new.self c.add-in-Named.new.self need.Text e in omega (arith, one, two)))

pub returns-in_ok-add-in-Values-clause-few : goal.returns-in_ok-add-in-Values-clause-few
returns-in_ok-add-in-Values-clause-few c =
    let one = needs_added c.args.needs.now c.add.new.self need.Part c.in_ok-add.ensures.ok in
    let two = needs_added c.add.new.self c.add-in-Values.new.self (need.Raw 1) c.in_ok-add-in-Values.ensures.ok in
    on_ok_then c.add-in-Values-2.result c.add-in-Values-2.ensures.ok
    (λ e. (let three = needs_added c.add-in-Values.new.self c.add-in-Values-2.new.self need.Text e in
    omega (arith, one, two, three)))
