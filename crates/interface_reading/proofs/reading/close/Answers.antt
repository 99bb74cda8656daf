use Rattle.std.proofs.Common.{length, refl, arith}
use Rattle.interface_reading.specs.Remaining.{with_open}
use Rattle.interface_reading.proofs.Opens.{open_snoc}
use Rattle.interface_reading.proofs.Closing.{node_closed}
use Rattle.interface_reading.proofs.Advancing.{advances_not, adds_not}
use Rattle.interface_reading.proofs.reading.close.Goals as goal

pub returns-in_err-place : goal.returns-in_err-place
returns-in_err-place c = λ bytes.
    let s = c.args.state.now in
    advances_not c.from_residual.result c.in_err-place.field-0.0 (with_open s c.args.top)
    (record s { rows = c.add_new.new.rows }) bytes bytes c.from_residual.ensures.1
    (adds_not s (record s { rows = c.add_new.new.rows }) c.args.top c.in_err-place.field-0.0 c.add_new.new.rows.keys
    bytes c.requires.holds c.requires.whole c.in_err-place.ensures)

pub index_mut-requires : goal.index_mut-requires
index_mut-requires c =
    let s = c.args.state.now in
    let around = open_snoc (length s.rows.keys) s.numbers.items s.opens c.args.top c.requires.holds.nested in
    let within = around.inner.within in
    let counted = s.numbers.ok.0 in
    omega (arith, within, counted)

pub returns : goal.returns
returns c = λ bytes.
    let s = c.args.state.now in
    node_closed s (record {
      numbers = Rattle.std.specs.Vec.with_item s.numbers c.args.top.number
          (Rattle.std.proofs.Common.Some c.in_ok-place.place);
      rows = c.add_new.new.rows;
      opens = c.hand_on.new.opens;
    }) c.args.top c.in_ok-place.place bytes c.requires.holds c.requires.whole c.in_ok-place.ensures refl
    c.in_ok-hand_on.ensures
