use Rattle.std.proofs.Common.{◌≡◌, length, refl, sym, ap, ◌∙◌, Some, slice_get}
use Rattle.std.proofs.lemmas.Option.{slice_get_read}
use Rattle.semantic_objects.specs.declared.node.TypeNode.TheVariants as node
use Rattle.semantic_objects.specs.Trees.{Tree, trees_of}
use Rattle.semantic_objects.specs.Nodes.{unfolded, tree_at, trees_at}
use Rattle.semantic_objects.proofs.Unfolding.{noted}
use Rattle.unification.specs.Closing.{plug}
use Rattle.realisation.specs.Realised.{realised_tree}
use Rattle.type_walks.specs.Images.{arguments_at}
use Rattle.type_walks.specs.Replaced.{put_by, function_for}
use Rattle.type_walks.proofs.Imaging.{appended_ok, picked_below, picked_node}
use Rattle.type_walks.proofs.Putting.{realised_put, realised_stays}
use Rattle.type_walks.proofs.trees.replaced_node.Goals as goal

pub put_function-requires : goal.put_function-requires
put_function-requires c = record {
  args = picked_below (realised_tree (put_by c.args.by.now)) c.args.nodes.now c.args.made.now c.args.images.now
      c.in-Made.places c.in_ok-parts-in-Made.parts c.requires.images c.in_ok-parts-in-Made.ensures;
}

pub add_node-requires-in-None : goal.add_node-requires-in-None
add_node-requires-in-None c =
    let nodes = c.args.nodes.now in
    let at : slice_get nodes c.args.at ≡ Some (node.Made c.in-Made.symbol c.in-Made.places) =
    slice_get_read nodes (length nodes) c.args.at _ refl c.requires.within c.index-nodes-at.is ∙ ap Some c.in-Made.is in
    picked_node (realised_tree (put_by c.args.by.now)) nodes c.args.made.now c.args.images.now
    c.in-Made.places c.in_ok-parts-in-Made.parts c.args.at c.in-Made.symbol c.in_ok-symbol-in-None.symbol
    c.requires.images c.in_ok-parts-in-Made.ensures (c.requires.nodes.each c.args.at _ at)
    c.in_ok-symbol-in-None.ensures

pub returns-in-Bound : goal.returns-in-Bound
returns-in-Bound c =
    let nodes = c.args.nodes.now in
    let at : slice_get nodes c.args.at ≡ Some (node.Bound c.in-Bound.variable) =
    slice_get_read nodes (length nodes) c.args.at _ refl c.requires.within c.index-nodes-at.is ∙ ap Some c.in-Bound.is
    in
    appended_ok c.args.made.now c.add_node.new.made (Tree.Bound c.in-Bound.variable)
    (realised_tree (put_by c.args.by.now) (tree_at nodes c.args.at)) c.add_node.result c.add_node.ensures
    (sym (ap (realised_tree (put_by c.args.by.now)) (noted nodes c.args.at _ c.requires.nodes at)))

pub returns-in-Free : goal.returns-in-Free
returns-in-Free c =
    let nodes = c.args.nodes.now in
    let at : slice_get nodes c.args.at ≡ Some (node.Free c.in-Free.number) =
    slice_get_read nodes (length nodes) c.args.at _ refl c.requires.within c.index-nodes-at.is ∙ ap Some c.in-Free.is
    in
    appended_ok c.args.made.now c.add_node-in-Free.new.made (Tree.Free c.in-Free.number)
    (realised_tree (put_by c.args.by.now) (tree_at nodes c.args.at)) c.add_node-in-Free.result c.add_node-in-Free.ensures
    (sym (ap (realised_tree (put_by c.args.by.now)) (noted nodes c.args.at _ c.requires.nodes at)))

pub returns-in-Some : goal.returns-in-Some
returns-in-Some c =
    let nodes = c.args.nodes.now in
    let made = c.args.made.now in
    let f = c.in-Some.function.now in
    let at : slice_get nodes c.args.at ≡ Some (node.Made c.in-Made.symbol c.in-Made.places) =
    slice_get_read nodes (length nodes) c.args.at _ refl c.requires.within c.index-nodes-at.is ∙ ap Some c.in-Made.is in
    let g : function_for c.args.by.now c.in-Made.symbol ≡ Some c.in-Some.function.now =
    sym (rw c.in-Some.is at c.in_ok-function-in-Made.ensures) in
    appended_ok made c.put_function.new.made
    (plug (arguments_at made c.in_ok-parts-in-Made.parts) f.body)
    (realised_tree (put_by c.args.by.now) (tree_at nodes c.args.at)) c.put_function.result c.put_function.ensures
    (realised_put c.args.by.now nodes made c.args.images.now c.in-Made.places c.in_ok-parts-in-Made.parts c.args.at
    c.in-Made.symbol f c.requires.images c.in_ok-parts-in-Made.ensures
    (noted nodes c.args.at _ c.requires.nodes at) g)

pub returns-in_ok-symbol-in-None : goal.returns-in_ok-symbol-in-None
returns-in_ok-symbol-in-None c =
    let nodes = c.args.nodes.now in
    let made = c.args.made.now in
    let parts = c.in_ok-parts-in-Made.parts in
    let d = c.in_ok-symbol-in-None.symbol in
    let at : slice_get nodes c.args.at ≡ Some (node.Made c.in-Made.symbol c.in-Made.places) =
    slice_get_read nodes (length nodes) c.args.at _ refl c.requires.within c.index-nodes-at.is ∙ ap Some c.in-Made.is in
    let g : function_for c.args.by.now c.in-Made.symbol ≡ _ =
    sym (rw c.in-None.is at c.in_ok-function-in-Made.ensures) in
    appended_ok made c.add_node-in-None.new.made (Tree.Made d (trees_of (trees_at (unfolded made) parts)))
    (realised_tree (put_by c.args.by.now) (tree_at nodes c.args.at)) c.add_node-in-None.result
    c.add_node-in-None.ensures
    (realised_stays c.args.by.now nodes made c.args.images.now c.in-Made.places parts c.args.at c.in-Made.symbol d
    c.requires.images c.in_ok-parts-in-Made.ensures (noted nodes c.args.at _ c.requires.nodes at) g
    c.in_ok-symbol-in-None.ensures)
