use Rattle.std.proofs.Common.{refl}
use Rattle.std.specs.List.{list_any}
use Rattle.std.proofs.lemmas.Map.Made.{AllPairs-from_IsDistinct}
use Rattle.node_bytes.specs.Rows.{same_row, row_decides}
use Rattle.interface_reading.proofs.Added.{is_added, is_there, not_true, not_false}
use Rattle.interface_reading.proofs.reading.add_new.Goals as goal

pub returns-then-not-new : goal.returns-then-not-new
returns-then-not-new c =
    let found = c.in_ok-place.ensures.stored in
    is_there c.args.row found.0 c.args.rows.now.keys c.insert_full.new.self.keys c.in_ok-place.place
    (not_false c.in_ok-place.new (list_any (same_row c.args.row) c.args.rows.now.keys) c.in_ok-place.ensures.added
    c.if-not-new.true) c.in_ok-place.ensures.keys found.1 found.2

pub returns : goal.returns
returns c =
    is_added c.args.row c.args.rows.now.keys c.insert_full.new.self.keys c.in_ok-place.place
    (list_any (same_row c.args.row) c.args.rows.now.keys) refl
    (not_true c.in_ok-place.new (list_any (same_row c.args.row) c.args.rows.now.keys) c.in_ok-place.ensures.added
    c.if-not-new.false) c.in_ok-place.ensures.keys c.in_ok-place.ensures.index
    (AllPairs-from_IsDistinct row_decides c.insert_full.new.self.keys c.in_ok-place.ensures.unique)
