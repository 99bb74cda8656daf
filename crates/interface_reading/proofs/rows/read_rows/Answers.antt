use Rattle.std.proofs.Common.{List, ℕ, subst}
use Rattle.interface_reading.specs.Rows.{SpellRows, SpellNone}
use Rattle.interface_reading.proofs.Beginning.{rows_spelled, bytes_left, rows_not, begin_refuses, open_refuses, not_both}
use Rattle.interface_reading.proofs.rows.read_rows.Goals as goal

pub returns-in_err-state : goal.returns-in_err-state
returns-in_err-state c =
    rows_not c.from_residual.result c.in_err-state.field-0.0 c.args.bytes.now c.from_residual.ensures.1
    (begin_refuses c.in_err-state.field-0.0 c.args.bytes.now c.new-reader.result c.begin.new.reader c.new-reader.ensures
    c.in_err-state.ensures)

pub read_open-requires : goal.read_open-requires
read_open-requires c = c.in_ok-state.ensures.holds

pub returns-in_err-read_open : goal.returns-in_err-read_open
returns-in_err-read_open c =
    rows_not c.from_residual-in_err-read_open.result c.in_err-read_open.field-0.0 c.args.bytes.now
    c.from_residual-in_err-read_open.ensures.1
    (open_refuses c.in_ok-state.state c.read_open.new.state c.in_err-read_open.field-0.0 c.args.bytes.now c.new-reader.result
    c.begin.new.reader c.read_open.new.reader c.new-reader.ensures c.in_ok-state.ensures c.in_err-read_open.ensures)

pub returns-then-not-at_end : goal.returns-then-not-at_end
returns-then-not-at_end c =
    subst SpellNone c.new-reader.ensures
    (bytes_left c.in_ok-state.state c.read_open.new.state c.new-reader.result c.begin.new.reader c.read_open.new.reader
    c.in_ok-state.ensures c.in_ok-read_open.ensures
    (λ e. not_both c.at_end.result c.if-not-at_end.true (c.at_end.ensures.1 e)))

pub returns : goal.returns
returns c =
    subst (λ (z : List ℕ). SpellRows z c.read_open.new.state.rows.keys) c.new-reader.ensures
    (rows_spelled c.in_ok-state.state c.read_open.new.state c.new-reader.result c.begin.new.reader c.read_open.new.reader
    c.in_ok-state.ensures c.in_ok-read_open.ensures (c.at_end.ensures.0 c.if-not-at_end.false))
