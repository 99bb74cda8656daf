use Rattle.std.proofs.Common.{◌≡◌, length, refl, sym, ap, ◌∙◌, Some, slice_get}
use Rattle.std.proofs.lemmas.Option.{slice_get_read}
use Rattle.semantic_objects.specs.declared.node.TypeNode.TheVariants as node
use Rattle.semantic_objects.specs.Trees.{Tree, trees_of}
use Rattle.semantic_objects.specs.Nodes.{unfolded, tree_at, trees_at}
use Rattle.semantic_objects.proofs.Unfolding.{noted}
use Rattle.unification.specs.Closing.{put_tree}
use Rattle.type_nodes.specs.Tables.{state}
use Rattle.type_walks.proofs.Imaging.{appended_ok, picked_node}
use Rattle.known_environments.proofs.Copying.{known_node}
use Rattle.known_environments.proofs.trees.known_node.Goals as goal

pub add_node-requires-in-Made : goal.add_node-requires-in-Made
add_node-requires-in-Made c =
    let nodes = c.args.nodes.now in
    let at : slice_get nodes c.args.at ≡ Some (node.Made c.in-Made.symbol c.in-Made.places) =
    slice_get_read nodes (length nodes) c.args.at _ refl c.requires.within c.index-nodes-at.is ∙ ap Some c.in-Made.is in
    picked_node (put_tree (state c.args.by.now).stands) nodes c.args.made.now c.args.images.now
    c.in-Made.places c.in_ok-parts-in-Made.parts c.args.at c.in-Made.symbol c.in_ok-symbol-in-Made.symbol
    c.requires.images c.in_ok-parts-in-Made.ensures (c.requires.nodes.each c.args.at _ at)
    c.in_ok-symbol-in-Made.ensures

pub returns-in-Bound : goal.returns-in-Bound
returns-in-Bound c =
    let nodes = c.args.nodes.now in
    let at : slice_get nodes c.args.at ≡ Some (node.Bound c.in-Bound.variable) =
    slice_get_read nodes (length nodes) c.args.at _ refl c.requires.within c.index-nodes-at.is ∙ ap Some c.in-Bound.is
    in
    appended_ok c.args.made.now c.add_node.new.made (Tree.Bound c.in-Bound.variable)
    (put_tree (state c.args.by.now).stands (tree_at nodes c.args.at)) c.add_node.result c.add_node.ensures
    (sym (ap (put_tree (state c.args.by.now).stands) (noted nodes c.args.at _ c.requires.nodes at)))

pub returns-in-Some : goal.returns-in-Some
returns-in-Some c =
    let nodes = c.args.nodes.now in
    let at : slice_get nodes c.args.at ≡ Some (node.Free c.in-Free.number) =
    slice_get_read nodes (length nodes) c.args.at _ refl c.requires.within c.index-nodes-at.is ∙ ap Some c.in-Free.is
    in
    appended_ok c.args.made.now c.add_tree.new.made c.in-Some.tree.now
    (put_tree (state c.args.by.now).stands (tree_at nodes c.args.at)) c.add_tree.result c.add_tree.ensures
    (c.in-Some.ensures ∙ sym (ap (put_tree (state c.args.by.now).stands) (noted nodes c.args.at _ c.requires.nodes at)))

pub returns-in_ok-symbol-in-Made : goal.returns-in_ok-symbol-in-Made
returns-in_ok-symbol-in-Made c =
    let nodes = c.args.nodes.now in
    let made = c.args.made.now in
    let parts = c.in_ok-parts-in-Made.parts in
    let d = c.in_ok-symbol-in-Made.symbol in
    let at : slice_get nodes c.args.at ≡ Some (node.Made c.in-Made.symbol c.in-Made.places) =
    slice_get_read nodes (length nodes) c.args.at _ refl c.requires.within c.index-nodes-at.is ∙ ap Some c.in-Made.is in
    appended_ok made c.add_node-in-Made.new.made (Tree.Made d (trees_of (trees_at (unfolded made) parts)))
    (put_tree (state c.args.by.now).stands (tree_at nodes c.args.at)) c.add_node-in-Made.result
    c.add_node-in-Made.ensures
    (known_node (state c.args.by.now).stands nodes made c.args.images.now c.in-Made.places parts c.args.at
    c.in-Made.symbol d c.requires.images c.in_ok-parts-in-Made.ensures c.in_ok-symbol-in-Made.ensures
    (noted nodes c.args.at _ c.requires.nodes at))
