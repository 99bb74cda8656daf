use Rattle.std.proofs.Common.{◌≡◌, ◌+◌, List, length, sym, ap, ◌∙◌, subst, arith}
use Rattle.semantic_objects.specs.Trees.{Tree, trees_of}
use Rattle.semantic_objects.specs.Nodes.{tree_at}
use Rattle.unification.specs.Closing.{plug}
use Rattle.realisation.specs.Realised.{argument}
use Rattle.type_walks.specs.Images.{AreImages, arguments_at}
use Rattle.type_walks.proofs.Imaging.{appended_as, below_grown, trees_grown, grown_then, grown_appended, images_push, last_below, last_is, length_snoc}
use Rattle.type_walks.proofs.images.put_function.Goals as goal

pub put_node-requires-clause-args : goal.put_node-requires-clause-args
put_node-requires-clause-args c =
    below_grown c.args.made.now c.loop-at.made c.args.args.now c.loop-at.invariant.grown c.requires.args

pub put_node-requires-clause-images : goal.put_node-requires-clause-images
put_node-requires-clause-images c =
    subst (λ (ts : List Tree). AreImages (plug (λ i. argument i (trees_of ts))) c.nodes-nodes.result.now c.loop-at.made c.loop-at.images)
    (sym (trees_grown c.args.made.now c.loop-at.made c.args.args.now c.loop-at.invariant.grown c.requires.args))
    c.loop-at.invariant.images

pub loop-at-preserved : goal.loop-at-preserved
loop-at-preserved c =
    let first = c.args.made.now in
    let args = c.args.args.now in
    let old = c.loop-at.made in
    let new = c.put_node.new.made in
    let nodes = c.nodes-nodes.result.now in
    let inv = c.loop-at.invariant in
    let place = c.in_ok-place.place in
    record {
      counted = ap length c.in_ok-add.ensures.ok ∙ length_snoc c.loop-at.images place ∙ ap (λ n. n + 1) inv.counted;
      grown = grown_then first old new place (plug (arguments_at old args) (tree_at nodes c.loop-at.at)) inv.grown
          c.in_ok-place.ensures;
      images = images_push (plug (arguments_at first args)) nodes old new c.loop-at.images c.add.new.self place
          c.loop-at.at inv.images
          (appended_as old new place (plug (arguments_at old args) (tree_at nodes c.loop-at.at))
          (plug (arguments_at first args) (tree_at nodes c.loop-at.at)) c.in_ok-place.ensures
          (ap (λ (ts : List Tree). plug (λ i. argument i (trees_of ts)) (tree_at c.nodes-nodes.result.now c.loop-at.at))
          (trees_grown c.args.made.now c.loop-at.made c.args.args.now c.loop-at.invariant.grown c.requires.args)))
          inv.counted c.in_ok-add.ensures.ok;
    }

pub returns-in-Some : goal.returns-in-Some
returns-in-Some c =
    let first = c.args.made.now in
    let nodes = c.nodes-nodes.result.now in
    let inv = c.loop-at.invariant in
    let k : c.loop-at.at ≡ length c.nodes-nodes.result.now =
    let k = c.loop-at-test.false in let l = c.loop-at.auto.at-end in omega (arith, k, l) in
    grown_appended first c.loop-at.made c.in-Some.place (plug (arguments_at first c.args.args.now) c.args.function.now.body)
    inv.grown
    (last_below (plug (arguments_at first c.args.args.now)) nodes c.loop-at.made c.loop-at.images c.pop.new.self
    c.in-Some.place inv.images (inv.counted ∙ k) c.in-Some.ensures)
    (last_is (plug (arguments_at first c.args.args.now)) nodes c.loop-at.made c.loop-at.images c.pop.new.self
    c.in-Some.place inv.images (inv.counted ∙ k) c.in-Some.ensures
    ∙ ap (plug (arguments_at c.args.made.now c.args.args.now)) c.nodes-nodes.ensures.tree)
