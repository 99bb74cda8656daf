use Rattle.std.proofs.Common.{take}
use Rattle.std.proofs.lemmas.List.{take_all}
use Rattle.row_environments.proofs.Tabled.{placed_more, placed_none, placed_all}
use Rattle.row_environments.proofs.tables.place_rows.Goals as goal

pub loop-row-preserved : goal.loop-row-preserved
loop-row-preserved c =
    placed_more c.args.told.now c.args.table.now c.loop-row.row-index c.row-item.result c.row-item.result
    c.in_ok-copy-in-Some.field-0 c.in-Some.place c.in_ok-place.field-0 c.loop-row.rows c.set.new.self c.requires
    c.row-item.is c.loop-row-test.true c.loop-row.invariant c.in_ok-copy-in-Some.ensures c.in_ok-place.ensures c.in-Some.is
    c.in_ok-set-in-Some.ensures.ok

pub returns-in-None : goal.returns-in-None
returns-in-None c =
    placed_none c.args.told.now c.args.table.now c.loop-row.row-index c.row-item.result c.row-item.result
    c.in_ok-place.field-0 c.row-item.is c.loop-row-test.true c.in_ok-place.ensures c.in-None.is

pub returns : goal.returns
returns c =
    placed_all c.args.told.now c.args.table.now (take c.loop-row.row-index c.args.table.now) c.loop-row.rows
    (take_all c.loop-row.row-index c.args.table.now c.loop-row-test.false) c.loop-row.invariant
