use Rattle.std.proofs.Common.{◌+◌, drop, get_or}
use Rattle.std.specs.List.{flat_map}
use Rattle.std.proofs.lemmas.List.{drop_more, drop_all}
use Rattle.name_walks.specs.Visits.{variables_at}
use Rattle.row_entries.proofs.Among.{below_next, below_not, below_end}
use Rattle.row_entries.proofs.variables.are_nodes_below.Goals as goal

pub loop-place-preserved : goal.loop-place-preserved
loop-place-preserved c =
    let places = c.args.places.now in
    let i = c.loop-place.place-index in
    let N = variables_at c.args.nodes.now in
    below_next c.args.count N (flat_map N places) (get_or places i 0) (drop i places) (drop (i + 1) places)
    c.is_node_below.result (drop_more places i 0 c.loop-place-test.true) c.is_node_below.ensures
    c.if-not-is_node_below.false c.loop-place.invariant

pub returns-then-not-is_node_below : goal.returns-then-not-is_node_below
returns-then-not-is_node_below c =
    let places = c.args.places.now in
    let i = c.loop-place.place-index in
    let N = variables_at c.args.nodes.now in
    below_not c.args.count N (flat_map N places) (get_or places i 0) (drop i places) (drop (i + 1) places)
    c.is_node_below.result (drop_more places i 0 c.loop-place-test.true) c.is_node_below.ensures
    c.if-not-is_node_below.true c.loop-place.invariant

pub returns : goal.returns
returns c =
    let places = c.args.places.now in
    let i = c.loop-place.place-index in
    let N = variables_at c.args.nodes.now in
    below_end c.args.count N (flat_map N places) (drop i places) (drop_all i places c.loop-place-test.false)
    c.loop-place.invariant
