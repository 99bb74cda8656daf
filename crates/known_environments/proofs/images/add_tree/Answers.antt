use Rattle.std.proofs.Common.{◌≡◌, ◌+◌, length, ap, ◌∙◌, arith}
use Rattle.semantic_objects.specs.Nodes.{tree_at}
use Rattle.type_walks.proofs.Imaging.{grown_then, grown_appended, images_push, last_below, last_is, length_snoc}
use Rattle.known_environments.specs.Copies.{same_tree}
use Rattle.known_environments.proofs.images.add_tree.Goals as goal

pub loop-at-preserved : goal.loop-at-preserved
loop-at-preserved c =
    let first = c.args.made.now in
    let old = c.loop-at.made in
    let new = c.copy_node.new.made in
    let nodes = c.nodes-nodes.result.now in
    let inv = c.loop-at.invariant in
    let place = c.in_ok-place.place in
    record {
      counted = ap length c.in_ok-add.ensures.ok ∙ length_snoc c.loop-at.images place ∙ ap (λ n. n + 1) inv.counted;
      grown = grown_then first old new place (same_tree (tree_at nodes c.loop-at.at)) inv.grown c.in_ok-place.ensures;
      images = images_push same_tree nodes old new c.loop-at.images c.add.new.self place
          c.loop-at.at inv.images c.in_ok-place.ensures inv.counted c.in_ok-add.ensures.ok;
    }

pub returns-in-Some : goal.returns-in-Some
returns-in-Some c =
    let first = c.args.made.now in
    let nodes = c.nodes-nodes.result.now in
    let inv = c.loop-at.invariant in
    let k : c.loop-at.at ≡ length c.nodes-nodes.result.now =
    let k = c.loop-at-test.false in let l = c.loop-at.auto.at-end in omega (arith, k, l) in
    grown_appended first c.loop-at.made c.in-Some.place c.args.tree.now
    inv.grown
    (last_below same_tree nodes c.loop-at.made c.loop-at.images c.pop.new.self
    c.in-Some.place inv.images (inv.counted ∙ k) c.in-Some.ensures)
    (last_is same_tree nodes c.loop-at.made c.loop-at.images c.pop.new.self
    c.in-Some.place inv.images (inv.counted ∙ k) c.in-Some.ensures
    ∙ c.nodes-nodes.ensures.tree)
