use Rattle.std.proofs.Common.{subst, sym}
use Rattle.interface_reading.specs.Remaining.{Holds, Advances, with_open, with_need}
use Rattle.interface_reading.specs.declared.needs.Need.{Need}
use Rattle.interface_reading.proofs.Moving.{field_met}
use Rattle.interface_reading.proofs.Advancing.{advances_not, meets_not, moves_to}
use Rattle.interface_reading.proofs.reading.step.Goals as goal

pub meet_part-requires : goal.meet_part-requires
meet_part-requires c =
    subst (λ (z : Need). Holds (with_open c.args.state.now (with_need c.args.top z))) c.in-Part.is c.requires

pub returns-in-Part : goal.returns-in-Part
returns-in-Part c =
    subst (λ (z : Need). Advances c.meet_part.result (with_open c.args.state.now (with_need c.args.top z))
    c.meet_part.new.state c.args.reader.now c.meet_part.new.reader) (sym c.in-Part.is) c.meet_part.ensures

pub returns-in_err-meet : goal.returns-in_err-meet
returns-in_err-meet c =
    let s = c.args.state.now in
    advances_not c.from_residual.result c.in_err-meet.field-0.0 (with_open s (with_need c.args.top c.args.need)) s
    c.args.reader.now c.meet.new.reader c.from_residual.ensures.1
    (meets_not s s c.args.top c.meet.new.top c.args.need c.in_err-meet.field-0.0 c.args.reader.now c.meet.new.reader
    c.in_err-meet.ensures.goes)

pub returns : goal.returns
returns c =
    let s = c.args.state.now in
    moves_to (with_open s (with_need c.args.top c.args.need)) s c.meet.new.top c.add.new.self c.args.reader.now
    c.meet.new.reader c.in_ok-add.ensures.ok
    (field_met s c.args.top c.meet.new.top c.args.need c.args.reader.now c.meet.new.reader c.requires
    c.in_ok-meet.ensures.goes c.in_ok-meet.ensures.less)
