use Rattle.std.proofs.Common.{◌≡◌, length, refl, ap, ◌∙◌, Some, map, slice_get}
use Rattle.std.proofs.lemmas.Option.{slice_get_read}
use Rattle.semantic_objects.specs.declared.node.TypeNode.TheVariants as node
use Rattle.semantic_objects.proofs.Unfolding.{noted}
use Rattle.type_nodes.specs.Tables.{type_of}
use Rattle.type_schemes.proofs.Adding.{adds_nothing, adds_node, adds_same}
use Rattle.type_functions.proofs.Arguments.{read_argument, read_variable, node_read, may_made}
use Rattle.type_functions.proofs.application.read_node.Goals as goal

pub returns-in_err-parts-in-Made-clause-added : goal.returns-in_err-parts-in-Made-clause-added
returns-in_err-parts-in-Made-clause-added c = adds_nothing c.args.table.now

pub returns-in_err-symbol-in-Some-clause-added : goal.returns-in_err-symbol-in-Some-clause-added
returns-in_err-symbol-in-Some-clause-added c = adds_nothing c.args.table.now

pub add_node-requires : goal.add_node-requires
add_node-requires c =
    let nodes = c.args.nodes.now in
    let at : slice_get nodes c.args.at ≡ Some (node.Made c.in-Made.symbol c.in-Made.places) =
    slice_get_read nodes (length nodes) c.args.at _ refl c.requires.within c.index-nodes-at.is ∙ ap Some c.in-Made.is in
    node_read c.args.table.now (map (type_of c.args.table.now) c.args.args.now) c.args.at nodes c.args.ids.now
    c.in-Made.symbol c.in_ok-symbol-in-Some.symbol c.in-Made.places c.in-Some.parts c.requires.read
    (rw c.in-Some.is at c.in_ok-parts-in-Made.ensures) (c.requires.nodes.each c.args.at _ at)
    c.in_ok-symbol-in-Some.ensures

pub returns-in_err-add_node-in-Some-clause-added : goal.returns-in_err-add_node-in-Some-clause-added
returns-in_err-add_node-in-Some-clause-added c =
    adds_same c.args.table.now c.add_node.new.self c.in_err-add_node-in-Some.ensures.refused

pub returns-in-Bound-clause-read : goal.returns-in-Bound-clause-read
returns-in-Bound-clause-read c =
    let nodes = c.args.nodes.now in
    let at : slice_get nodes c.args.at ≡ Some (node.Bound c.in-Bound.i) =
    slice_get_read nodes (length nodes) c.args.at _ refl c.requires.within c.index-nodes-at.is ∙ ap Some c.in-Bound.is
    in
    read_argument c.args.table.now c.args.args.now c.in-Bound.i _ c.argument.result c.requires.args
    (noted nodes c.args.at _ c.requires.nodes at) c.argument.ensures

pub returns-in-Bound-clause-added : goal.returns-in-Bound-clause-added
returns-in-Bound-clause-added c = adds_nothing c.args.table.now

pub returns-in-Free-clause-read : goal.returns-in-Free-clause-read
returns-in-Free-clause-read c =
    let nodes = c.args.nodes.now in
    let at : slice_get nodes c.args.at ≡ Some (node.Free c.in-Free.number) =
    slice_get_read nodes (length nodes) c.args.at _ refl c.requires.within c.index-nodes-at.is ∙ ap Some c.in-Free.is
    in
    read_variable c.args.table.now (map (type_of c.args.table.now) c.args.args.now) c.in-Free.number _ c.variable.result
    (noted nodes c.args.at _ c.requires.nodes at) c.variable.ensures

pub returns-in-Free-clause-added : goal.returns-in-Free-clause-added
returns-in-Free-clause-added c = adds_nothing c.args.table.now

pub returns-in_ok-add_node-in-Some-clause-read : goal.returns-in_ok-add_node-in-Some-clause-read
returns-in_ok-add_node-in-Some-clause-read c =
    let nodes = c.args.nodes.now in
    let at : slice_get nodes c.args.at ≡ Some (node.Made c.in-Made.symbol c.in-Made.places) =
    slice_get_read nodes (length nodes) c.args.at _ refl c.requires.within c.index-nodes-at.is ∙ ap Some c.in-Made.is in
    may_made c.args.table.now c.add_node.new.self (map (type_of c.args.table.now) c.args.args.now) c.args.at nodes
    c.args.ids.now c.in-Made.symbol c.in_ok-symbol-in-Some.symbol c.in-Made.places c.in-Some.parts
    c.in_ok-add_node-in-Some.field-0 c.requires.read (rw c.in-Some.is at c.in_ok-parts-in-Made.ensures)
    (noted nodes c.args.at _ c.requires.nodes at) c.in_ok-symbol-in-Some.ensures
    c.in_ok-add_node-in-Some.ensures.added c.in_ok-add_node-in-Some.ensures.id

pub returns-in_ok-add_node-in-Some-clause-added : goal.returns-in_ok-add_node-in-Some-clause-added
returns-in_ok-add_node-in-Some-clause-added c =
    adds_node c.args.table.now c.add_node.new.self _ c.in_ok-add_node-in-Some.ensures.added

pub returns-in-None-clause-added : goal.returns-in-None-clause-added
returns-in-None-clause-added c = adds_nothing c.args.table.now
