use Rattle.std.proofs.Common.{drop, ◌+◌}
use Rattle.std.specs.List.{list_any}
use Rattle.type_walks.specs.Replaced.{rows_of}
use Rattle.module_semantics.specs.Matching.{is_left}
use Rattle.structure_matching.proofs.Listing.{drop_item}
use Rattle.structure_matching.proofs.Opening.{left_by, any_next, any_found, any_later}
use Rattle.structure_matching.proofs.realisation_search.is_any_left.Goals as goal

pub returns-then-is_none : goal.returns-then-is_none
returns-then-is_none c =
    let left = is_left (rows_of c.args.search.now.rows) in
    let all = c.args.bound.now in
    let i = c.loop-name.name-index in
    any_found c.is_none.result (list_any left (drop (i + 1) all)) (list_any left all) c.if-is_none.true
    (any_next left all (drop i all) (drop (i + 1) all) c.name-item.result c.is_none.result
    (drop_item all i c.name-item.result c.loop-name-test.true c.name-item.is)
    (left_by c.name-item.result c.args.search.now.rows c.args.search.now.realised.names c.in_ok-place_of.field-0
    c.is_none.result c.requires.ready.names c.in_ok-place_of.ensures c.is_none.ensures) c.loop-name.invariant)

pub loop-name-preserved : goal.loop-name-preserved
loop-name-preserved c =
    let left = is_left (rows_of c.args.search.now.rows) in
    let all = c.args.bound.now in
    let i = c.loop-name.name-index in
    any_later c.is_none.result (list_any left (drop (i + 1) all)) (list_any left all) c.if-is_none.false
    (any_next left all (drop i all) (drop (i + 1) all) c.name-item.result c.is_none.result
    (drop_item all i c.name-item.result c.loop-name-test.true c.name-item.is)
    (left_by c.name-item.result c.args.search.now.rows c.args.search.now.realised.names c.in_ok-place_of.field-0
    c.is_none.result c.requires.ready.names c.in_ok-place_of.ensures c.is_none.ensures) c.loop-name.invariant)
