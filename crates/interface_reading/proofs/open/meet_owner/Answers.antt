use Rattle.std.proofs.Common.{ap, ◌∷◌, [], arith}
use Rattle.interface_reading.specs.Meeting.{rest_shape}
use Rattle.interface_reading.proofs.Awaited.{open_of, owner_met, owner_text, owner_plain}
use Rattle.interface_reading.specs.declared.needs.Need.TheVariants as need
use Rattle.interface_reading.proofs.Weighing.{raw_taken, one_lighter}
use Rattle.interface_reading.proofs.open.meet_owner.Goals as goal

pub returns-then-kind-eq2-clause-goes : goal.returns-then-kind-eq2-clause-goes
returns-then-kind-eq2-clause-goes c =
    let top = c.args.top.now in
    owner_met top (open_of top.tag top.number c.add.new.self c.read_byte.new.items) c.add.new.self c.args.reader.now
    c.read_byte.new.reader c.in_ok-kind.kind c.in_ok-kind.ensures.0
    (owner_text top c.add.new.self c.in_ok-kind.kind c.if-kind-eq2.true c.in_ok-add.ensures.ok)
    (ap (open_of top.tag top.number c.add.new.self) c.in_ok-kind.ensures.1)

pub returns-clause-goes : goal.returns-clause-goes
returns-clause-goes c =
    let top = c.args.top.now in
    owner_met top (open_of top.tag top.number top.needs c.read_byte.new.items) top.needs c.args.reader.now
    c.read_byte.new.reader c.in_ok-kind.kind c.in_ok-kind.ensures.0
    (owner_plain (rest_shape top) c.in_ok-kind.kind c.if-kind-gt3.false c.if-kind-eq2.false)
    (ap (open_of top.tag top.number top.needs) c.in_ok-kind.ensures.1)

pub returns-then-kind-eq2-clause-less : goal.returns-then-kind-eq2-clause-less
returns-then-kind-eq2-clause-less c =
    let fewer = raw_taken 1 c.args.reader.now (c.in_ok-kind.kind ∷ []) c.read_byte.new.reader c.in_ok-kind.ensures.0 in
    one_lighter need.Owner need.Text c.args.reader.now c.read_byte.new.reader c.args.top.now.needs c.add.new.self
    c.in_ok-add.ensures.ok (omega (arith, fewer)) (omega arith)

pub returns-clause-less : goal.returns-clause-less
returns-clause-less c =
    let fewer = raw_taken 1 c.args.reader.now (c.in_ok-kind.kind ∷ []) c.read_byte.new.reader c.in_ok-kind.ensures.0 in
    omega (arith, fewer)
