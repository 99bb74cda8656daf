use Rattle.sml_modules.proofs.Keeping.{extends_then}
use Rattle.row_environments.proofs.Valued.{value_more, value_none}
use Rattle.row_environments.proofs.values.value_rows.Goals as goal

pub loop-row-preserved : goal.loop-row-preserved
loop-row-preserved c = record {
  extends = extends_then c.args.graph.now c.loop-row.graph c.value_place.new.graph c.loop-row.invariant.extends
      c.value_place.ensures.extends;
  values = c.in_ok-place.ensures.values;
  rows = value_more c.args.entries.now c.loop-row.graph c.value_place.new.graph c.args.table.now c.loop-row.row-index
      c.row-item.result c.row-item.result c.in_ok-copy-in-Some.field-0 c.in-Some.place c.loop-row.rows c.set.new.self
      c.requires.rising c.row-item.is c.loop-row-test.true c.value_place.ensures.extends c.loop-row.invariant.rows
      c.in_ok-copy-in-Some.ensures (rw c.in-Some.is at c.in_ok-place.ensures.is) c.in_ok-set-in-Some.ensures.ok;
}

pub returns-in-None-clause-rows : goal.returns-in-None-clause-rows
returns-in-None-clause-rows c =
    value_none c.args.entries.now c.value_place.new.graph.items c.args.table.now c.loop-row.row-index
    c.row-item.result c.row-item.result c.in_ok-place.field-0 c.row-item.is c.loop-row-test.true
    c.in_ok-place.ensures.is c.in-None.is
