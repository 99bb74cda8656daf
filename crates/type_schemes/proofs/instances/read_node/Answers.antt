use Rattle.std.proofs.Common.{◌≡◌, refl, sym, ap, ◌∙◌, Some, length, slice_get}
use Rattle.std.proofs.lemmas.Option.{slice_get_read}
use Rattle.semantic_objects.specs.declared.node.TypeNode.TheVariants as node
use Rattle.semantic_objects.proofs.Unfolding.{noted}
use Rattle.unification.specs.Types.{Ty}
use Rattle.type_schemes.specs.Instances.{instance_at}
use Rattle.type_schemes.proofs.Adding.{adds_nothing, adds_node, adds_same}
use Rattle.type_schemes.proofs.Reading.{read_variable, node_read, may_made}
use Rattle.type_schemes.proofs.instances.read_node.Goals as goal

pub returns-in_err-parts-in-Made-clause-added : goal.returns-in_err-parts-in-Made-clause-added
returns-in_err-parts-in-Made-clause-added c = adds_nothing c.args.table.now

pub returns-in_err-symbol-in-Some-2-clause-added :
    goal.returns-in_err-symbol-in-Some-2-clause-added
returns-in_err-symbol-in-Some-2-clause-added c = adds_nothing c.args.table.now

pub add_node-requires : goal.add_node-requires
add_node-requires c =
    let nodes = c.args.nodes.now in
    let at : slice_get nodes c.args.at ≡ Some (node.Made c.in-Made.symbol c.in-Made.places) =
    slice_get_read nodes (length nodes) c.args.at _ refl c.requires.within c.index-nodes-at.is ∙ ap Some c.in-Made.is in
    node_read c.args.table.now c.args.base c.args.at nodes c.args.ids.now c.in-Made.symbol c.in_ok-symbol-in-Some-2.symbol
    c.in-Made.places c.in-Some-2.parts c.requires.read (rw c.in-Some-2.is at c.in_ok-parts-in-Made.ensures)
    (c.requires.nodes.each c.args.at _ at) c.in_ok-symbol-in-Some-2.ensures

pub returns-in_err-add_node-in-Some-2-clause-added :
    goal.returns-in_err-add_node-in-Some-2-clause-added
returns-in_err-add_node-in-Some-2-clause-added c =
    adds_same c.args.table.now c.add_node.new.self c.in_err-add_node-in-Some-2.ensures.refused

pub returns-in-Some-clause-read : goal.returns-in-Some-clause-read
returns-in-Some-clause-read c =
    let nodes = c.args.nodes.now in
    let at : slice_get nodes c.args.at ≡ Some (node.Bound c.in-Bound.i) =
    slice_get_read nodes (length nodes) c.args.at _ refl c.requires.within c.index-nodes-at.is ∙ ap Some c.in-Bound.is in
    read_variable c.args.table.now c.args.base c.in-Some.number _ c.variable.result
    (ap (instance_at c.args.base) (noted nodes c.args.at _ c.requires.nodes at) ∙ ap Ty.Var (sym c.in-Some.ensures.1)) c.variable.ensures.some

pub returns-in-Some-clause-added : goal.returns-in-Some-clause-added
returns-in-Some-clause-added c = adds_nothing c.args.table.now

pub returns-in-None-clause-added : goal.returns-in-None-clause-added
returns-in-None-clause-added c = adds_nothing c.args.table.now

pub returns-in-Free-clause-read : goal.returns-in-Free-clause-read
returns-in-Free-clause-read c =
    let nodes = c.args.nodes.now in
    let at : slice_get nodes c.args.at ≡ Some (node.Free c.in-Free.number) =
    slice_get_read nodes (length nodes) c.args.at _ refl c.requires.within c.index-nodes-at.is ∙ ap Some c.in-Free.is in
    read_variable c.args.table.now c.args.base c.in-Free.number _ c.variable-in-Free.result
    (ap (instance_at c.args.base) (noted nodes c.args.at _ c.requires.nodes at)) c.variable-in-Free.ensures.some

pub returns-in-Free-clause-added : goal.returns-in-Free-clause-added
returns-in-Free-clause-added c = adds_nothing c.args.table.now

pub returns-in_ok-add_node-in-Some-2-clause-read :
    goal.returns-in_ok-add_node-in-Some-2-clause-read
returns-in_ok-add_node-in-Some-2-clause-read c =
    let nodes = c.args.nodes.now in
    let at : slice_get nodes c.args.at ≡ Some (node.Made c.in-Made.symbol c.in-Made.places) =
    slice_get_read nodes (length nodes) c.args.at _ refl c.requires.within c.index-nodes-at.is ∙ ap Some c.in-Made.is in
    may_made c.args.table.now c.add_node.new.self c.args.base c.args.at nodes c.args.ids.now c.in-Made.symbol
    c.in_ok-symbol-in-Some-2.symbol c.in-Made.places c.in-Some-2.parts c.in_ok-add_node-in-Some-2.field-0 c.requires.read
    (rw c.in-Some-2.is at c.in_ok-parts-in-Made.ensures) (noted nodes c.args.at _ c.requires.nodes at) c.in_ok-symbol-in-Some-2.ensures
    c.in_ok-add_node-in-Some-2.ensures.added c.in_ok-add_node-in-Some-2.ensures.id

pub returns-in_ok-add_node-in-Some-2-clause-added :
    goal.returns-in_ok-add_node-in-Some-2-clause-added
returns-in_ok-add_node-in-Some-2-clause-added c =
    adds_node c.args.table.now c.add_node.new.self _ c.in_ok-add_node-in-Some-2.ensures.added

pub returns-in-None-2-clause-added : goal.returns-in-None-2-clause-added
returns-in-None-2-clause-added c = adds_nothing c.args.table.now
