use Rattle.std.proofs.Common.{length, sym}
use Rattle.semantic_objects.specs.declared.node.TypeNode.TheVariants as node
use Rattle.semantic_objects.specs.declared.symbol.Symbol.TheVariants as symbol
use Rattle.semantic_objects.specs.Nodes.{node_tree, unfolded}
use Rattle.type_walks.specs.Images.{arguments_at}
use Rattle.type_walks.proofs.Imaging.{appended_none, appended_ok, argument_below, argument_there, nothing_there}
use Rattle.type_walks.proofs.images.argument.Goals as goal

pub returns-in-Some : goal.returns-in-Some
returns-in-Some c =
    let made = c.args.made.now in
    let args = c.args.args.now in
    let i = c.args.variable in
    let p = c.in-Some.place.now in
    appended_none made p (arguments_at made args i)
    (argument_below (length made) args i p c.requires.args (sym c.in-Some.ensures.item))
    (argument_there made args i p (sym c.in-Some.ensures.item))

pub returns-in-None : goal.returns-in-None
returns-in-None c =
    let made = c.args.made.now in
    let args = c.args.args.now in
    appended_ok made c.add_node.new.made (node_tree (unfolded made) (node.Made (symbol.Record c.new.result) c.new-in-None.result))
    (arguments_at made args c.args.variable) c.add_node.result c.add_node.ensures
    (nothing_there made args c.args.variable c.new.result c.new-in-None.result c.new.ensures c.new-in-None.ensures
    (sym c.in-None.ensures.item))
