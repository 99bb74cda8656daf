use Rattle.std.proofs.Common.{◌≡◌, refl, ap, ◌∙◌, Some, slice_get}
use Rattle.semantic_objects.specs.declared.node.TypeNode.TheVariants as node
use Rattle.type_walks.proofs.Imaging.{on_ok}
use Rattle.name_walks.proofs.Visiting.{leaf_opened, node_opened, found_at}
use Rattle.name_walks.proofs.walking.open_node.Goals as goal

pub returns-in-Bound : goal.returns-in-Bound
returns-in-Bound c =
    let nodes = c.args.nodes.now in
    let at : slice_get nodes c.args.at ≡ Some (node.Bound c.in-Bound.field-0) =
    found_at nodes c.args.at c.in-Some.node.now _ c.in-Some.ensures.lookup.0 c.in-Some.ensures.lookup.1
    ∙ ap Some c.in-Bound.is in
    leaf_opened nodes c.args.visits.now c.add.new.self c.args.done.now c.args.steps.now c.add-2.new.self c.args.at
    (node.Bound c.in-Bound.field-0) c.requires at refl c.in_ok-add.ensures.ok c.in_ok-add-2.ensures.ok

pub returns-in-Free : goal.returns-in-Free
returns-in-Free c =
    let nodes = c.args.nodes.now in
    let at : slice_get nodes c.args.at ≡ Some (node.Free c.in-Free.field-0) =
    found_at nodes c.args.at c.in-Some.node.now _ c.in-Some.ensures.lookup.0 c.in-Some.ensures.lookup.1
    ∙ ap Some c.in-Free.is in
    leaf_opened nodes c.args.visits.now c.add.new.self c.args.done.now c.args.steps.now c.add-2.new.self c.args.at
    (node.Free c.in-Free.field-0) c.requires at refl c.in_ok-add.ensures.ok c.in_ok-add-2.ensures.ok

pub returns-in-Made : goal.returns-in-Made
returns-in-Made c =
    let nodes = c.args.nodes.now in
    let at : slice_get nodes c.args.at ≡ Some (node.Made c.in-Made.field-0 c.in-Made.places) =
    found_at nodes c.args.at c.in-Some.node.now _ c.in-Some.ensures.lookup.0 c.in-Some.ensures.lookup.1
    ∙ ap Some c.in-Made.is in
    on_ok c.enter_all.result c.enter_all.ensures
    (λ h. node_opened nodes c.args.visits.now c.add.new.self c.args.done.now c.args.steps.now c.add-2.new.self
    c.enter_all.new.steps c.args.at (node.Made c.in-Made.field-0 c.in-Made.places) c.requires at
    c.in_ok-add.ensures.ok c.in_ok-add-2.ensures.ok h)
