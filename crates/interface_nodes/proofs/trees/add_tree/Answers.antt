use Rattle.std.proofs.Common.{◌≡◌, ◌+◌, length, refl, drop, arith}
use Rattle.std.proofs.lemmas.Option.{slice_get_read}
use Rattle.interface_nodes.proofs.Imaging.{walk_next, walk_ends, drop_get, no_more}
use Rattle.interface_nodes.proofs.trees.add_tree.Goals as goal

pub loop-at-preserved : goal.loop-at-preserved
loop-at-preserved c =
    let nodes = c.nodes-nodes.result.now in
    let at = c.loop-at.at in
    walk_next c.args.home.now nodes (drop at nodes) (drop (at + 1) nodes) _ c.args.table.now c.loop-at.table
    c.add_node.new.table c.loop-at.images c.add.new.self c.in_ok-image.image
    (drop_get nodes at _ (slice_get_read nodes (length nodes) at _ refl c.loop-at-test.true c.index-nodes-at.is))
    c.in_ok-add.ensures.ok c.loop-at.invariant c.in_ok-image.ensures

pub returns-in-Some : goal.returns-in-Some
returns-in-Some c =
    let nodes = c.nodes-nodes.result.now in
    let end : c.loop-at.at ≡ length c.nodes-nodes.result.now =
    let k = c.loop-at-test.false in let l = c.loop-at.auto.at-end in omega (arith, k, l) in
    walk_ends c.args.home.now nodes (drop c.loop-at.at nodes) c.args.table.now c.loop-at.table c.loop-at.images
    c.pop.new.self c.in-Some.image c.args.tree.now (no_more nodes c.loop-at.at end) c.nodes-nodes.ensures.tree
    c.in-Some.ensures c.loop-at.invariant
