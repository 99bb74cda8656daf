use Rattle.std.proofs.Common.{◌+◌, drop, get_or}
use Rattle.std.specs.List.{flat_map}
use Rattle.std.proofs.lemmas.List.{drop_more, drop_all}
use Rattle.name_walks.specs.Visits.{variables_at}
use Rattle.row_entries.proofs.Numbered.{goes_on, stops, all_met}
use Rattle.row_entries.proofs.variables.count_nodes.Goals as goal

pub loop-place-preserved : goal.loop-place-preserved
loop-place-preserved c =
    let places = c.args.places.now in
    let i = c.loop-place.place-index in
    let N = variables_at c.args.nodes.now in
    goes_on N (flat_map N places) c.loop-place.count c.in-Some.next (get_or places i 0) (drop i places)
    (drop (i + 1) places) (drop_more places i 0 c.loop-place-test.true) c.in-Some.ensures c.loop-place.invariant

pub returns-in-None : goal.returns-in-None
returns-in-None c =
    let places = c.args.places.now in
    let i = c.loop-place.place-index in
    let N = variables_at c.args.nodes.now in
    stops N (flat_map N places) c.loop-place.count (get_or places i 0) (drop i places) (drop (i + 1) places)
    (drop_more places i 0 c.loop-place-test.true) c.in-None.ensures c.loop-place.invariant

pub returns : goal.returns
returns c =
    let places = c.args.places.now in
    let i = c.loop-place.place-index in
    let N = variables_at c.args.nodes.now in
    all_met N (flat_map N places) c.loop-place.count (drop i places) (drop_all i places c.loop-place-test.false)
    c.loop-place.invariant
