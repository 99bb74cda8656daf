use Rattle.interface_reading.specs.declared.fault.RestoreFault.TheVariants as fault
use Rattle.interface_reading.proofs.Weighing.{byte_taken, byte_none}
use Rattle.interface_reading.proofs.Beginning.{begins_not, nothing_begins, back_begins, begin_refused, begun}
use Rattle.interface_reading.proofs.rows.begin.Goals as goal

pub returns-in_err-tag : goal.returns-in_err-tag
returns-in_err-tag c =
    begins_not c.from_residual.result fault.BadInterface c.args.reader.now c.u8.new.self c.from_residual.ensures.1
    (nothing_begins c.args.reader.now (byte_none c.args.reader.now c.in_err-tag.ensures.0))

pub returns-then-tag-eq-BACK : goal.returns-then-tag-eq-BACK
returns-then-tag-eq-BACK c =
    back_begins c.args.reader.now c.u8.new.self c.in_ok-tag.tag
    (byte_taken c.args.reader.now c.in_ok-tag.tag c.u8.new.self c.in_ok-tag.ensures) c.if-tag-eq-BACK.true

pub returns-in_err-open_node : goal.returns-in_err-open_node
returns-in_err-open_node c =
    begins_not c.from_residual-in_err-open_node.result c.in_err-open_node.field-0.0 c.args.reader.now c.u8.new.self
    c.from_residual-in_err-open_node.ensures.1
    (begin_refused c.args.reader.now c.u8.new.self c.in_ok-tag.tag c.in_err-open_node.field-0.0 (record {
      numbers = c.new.result;
      rows = c.new-2.result;
      opens = c.new-3.result;
    }) c.open_node.new.state (byte_taken c.args.reader.now c.in_ok-tag.tag c.u8.new.self c.in_ok-tag.ensures)
    c.if-tag-eq-BACK.false c.in_err-open_node.ensures)

pub returns : goal.returns
returns c =
    begun (record { numbers = c.new.result; rows = c.new-2.result; opens = c.new-3.result }) c.open_node.new.state
    c.args.reader.now c.u8.new.self c.in_ok-tag.tag c.new.ensures.items c.new-2.ensures.empty c.new-3.ensures
    (byte_taken c.args.reader.now c.in_ok-tag.tag c.u8.new.self c.in_ok-tag.ensures) c.if-tag-eq-BACK.false
    c.in_ok-open_node.ensures
