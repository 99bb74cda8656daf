use Rattle.std.proofs.Common.{List, subst}
use Rattle.interface_reading.specs.Remaining.{with_open, with_need, OpensNode}
use Rattle.interface_reading.specs.declared.fault.RestoreFault.TheVariants as fault
use Rattle.interface_reading.specs.declared.needs.Need.TheVariants as need
use Rattle.interface_reading.specs.declared.open.Open.{Open}
use Rattle.interface_reading.proofs.Weighing.{byte_taken, byte_none}
use Rattle.interface_reading.proofs.Advancing.{advances_not, behind_tag, opens_part, no_part, with_opens}
use Rattle.interface_reading.proofs.reading.meet_part.Goals as goal

pub returns-in_err-tag : goal.returns-in_err-tag
returns-in_err-tag c =
    advances_not c.from_residual.result fault.BadInterface (with_open c.args.state.now (with_need c.args.top need.Part))
    c.args.state.now c.args.reader.now c.u8.new.self c.from_residual.ensures.1
    (no_part c.args.state.now c.args.top c.args.reader.now (byte_none c.args.reader.now c.in_err-tag.ensures.0))

pub returns-then-tag-eq-BACK : goal.returns-then-tag-eq-BACK
returns-then-tag-eq-BACK c =
    behind_tag c.follow.result (with_open c.args.state.now (with_need c.args.top need.Part)) c.follow.new.state
    c.args.reader.now c.u8.new.self c.follow.new.reader c.in_ok-tag.tag 12
    (byte_taken c.args.reader.now c.in_ok-tag.tag c.u8.new.self c.in_ok-tag.ensures) c.if-tag-eq-BACK.true
    c.follow.ensures

pub returns : goal.returns
returns c =
    opens_part c.open_node.result c.args.state.now c.open_node.new.state c.args.top c.args.reader.now c.u8.new.self
    c.in_ok-tag.tag c.requires (byte_taken c.args.reader.now c.in_ok-tag.tag c.u8.new.self c.in_ok-tag.ensures)
    c.if-tag-eq-BACK.false
    (subst (λ (z : List Open). OpensNode c.in_ok-tag.tag c.open_node.result (with_opens c.args.state.now z)
    c.open_node.new.state) c.in_ok-add.ensures.ok c.open_node.ensures)
