use Rattle.std.proofs.Common.{subst, sym}
use Rattle.std.specs.Prelude.{OnOk}
use Rattle.interface_reading.specs.Meeting.{Meets}
use Rattle.interface_reading.specs.Weights.{IsLighter}
use Rattle.interface_reading.specs.declared.needs.Need.{Need}
use Rattle.interface_reading.proofs.reading.meet.Goals as goal

pub returns-in-Raw-clause-goes : goal.returns-in-Raw-clause-goes
returns-in-Raw-clause-goes c =
    subst (λ (z : Need). Meets z c.meet_raw.result c.args.top.now c.meet_raw.new.top c.args.reader.now c.meet_raw.new.reader)
    (sym c.in-Raw.is) c.meet_raw.ensures.goes

pub returns-in-Raw-clause-less : goal.returns-in-Raw-clause-less
returns-in-Raw-clause-less c =
    subst (λ (z : Need). OnOk c.meet_raw.result (IsLighter z c.args.reader.now c.args.top.now.needs c.meet_raw.new.reader
    c.meet_raw.new.top.needs)) (sym c.in-Raw.is) c.meet_raw.ensures.less

pub returns-in-Text-clause-goes : goal.returns-in-Text-clause-goes
returns-in-Text-clause-goes c =
    subst (λ (z : Need). Meets z c.meet_text.result c.args.top.now c.meet_text.new.top c.args.reader.now c.meet_text.new.reader)
    (sym c.in-Text.is) c.meet_text.ensures.goes

pub returns-in-Text-clause-less : goal.returns-in-Text-clause-less
returns-in-Text-clause-less c =
    subst (λ (z : Need). OnOk c.meet_text.result (IsLighter z c.args.reader.now c.args.top.now.needs c.meet_text.new.reader
    c.meet_text.new.top.needs)) (sym c.in-Text.is) c.meet_text.ensures.less

pub returns-in-Owner-clause-goes : goal.returns-in-Owner-clause-goes
returns-in-Owner-clause-goes c =
    subst (λ (z : Need). Meets z c.meet_owner.result c.args.top.now c.meet_owner.new.top c.args.reader.now c.meet_owner.new.reader)
    (sym c.in-Owner.is) c.meet_owner.ensures.goes

pub returns-in-Owner-clause-less : goal.returns-in-Owner-clause-less
returns-in-Owner-clause-less c =
    subst (λ (z : Need). OnOk c.meet_owner.result (IsLighter z c.args.reader.now c.args.top.now.needs c.meet_owner.new.reader
    c.meet_owner.new.top.needs)) (sym c.in-Owner.is) c.meet_owner.ensures.less

pub returns-in-List-clause-goes : goal.returns-in-List-clause-goes
returns-in-List-clause-goes c =
    subst (λ (z : Need). Meets z c.meet_list.result c.args.top.now c.meet_list.new.top c.args.reader.now c.meet_list.new.reader)
    (sym c.in-List.is) c.meet_list.ensures.goes

pub returns-in-List-clause-less : goal.returns-in-List-clause-less
returns-in-List-clause-less c =
    subst (λ (z : Need). OnOk c.meet_list.result (IsLighter z c.args.reader.now c.args.top.now.needs c.meet_list.new.reader
    c.meet_list.new.top.needs)) (sym c.in-List.is) c.meet_list.ensures.less

pub returns-in-Items-clause-goes : goal.returns-in-Items-clause-goes
returns-in-Items-clause-goes c =
    subst (λ (z : Need). Meets z c.meet_items.result c.args.top.now c.meet_items.new.top c.args.reader.now
    c.args.reader.now) (sym c.in-Items.is) (c.meet_items.ensures.goes c.args.reader.now)

pub returns-in-Items-clause-less : goal.returns-in-Items-clause-less
returns-in-Items-clause-less c =
    subst (λ (z : Need). OnOk c.meet_items.result (IsLighter z c.args.reader.now c.args.top.now.needs
    c.args.reader.now c.meet_items.new.top.needs)) (sym c.in-Items.is) (c.meet_items.ensures.less c.args.reader.now)
