use Rattle.std.proofs.Common.{◌+◌, length, drop, refl, sym, ◌∙◌}
use Rattle.std.proofs.lemmas.Option.{slice_get_read}
use Rattle.environment_nodes.proofs.Placing.{next_row, rows_next}
use Rattle.environment_nodes.proofs.rows.placed_rows.Goals as goal

pub loop-at-preserved : goal.loop-at-preserved
loop-at-preserved c =
    let names = c.as_slice-names.result.now in
    let rows = c.args.rows.now in
    let i = c.loop-at.at in
    rows_next c.args.places.now (drop i rows) (drop (i + 1) rows) c.loop-at.made c.add.new.self
    c.index-names-at.result c.in_ok-copy-in-Some.field-0 c.in-Some.part.now c.in_ok-node_of-in-Some.field-0 _
    (next_row rows names c.in_ok-parts.parts i c.index-names-at.result c.in-Some.part.now
    (c.as_slice-names.ensures ∙ c.in_ok-names.ensures.names) c.in_ok-parts.ensures
    (slice_get_read names (length names) i c.index-names-at.result refl c.loop-at-test.true c.index-names-at.is)
    (sym c.in-Some.ensures.item)) c.in_ok-add-in-Some.ensures.ok c.in_ok-copy-in-Some.ensures
    c.in_ok-node_of-in-Some.ensures c.loop-at.invariant
