use Rattle.std.proofs.Common.{length, subst, ap, ◌∙◌, sym}
use Rattle.node_bytes.specs.Nodes.{Node}
use Rattle.node_tables.specs.Tables.{Adds}
use Rattle.semantic_objects.specs.Nodes.{node_tree}
use Rattle.interface_format.specs.Trees.{type_node}
use Rattle.interface_nodes.proofs.Imaging.{if_ok, picked_below, made_node}
use Rattle.interface_nodes.proofs.trees.add_node.Goals as goal

pub add_over-requires : goal.add_over-requires
add_over-requires c = picked_below (length c.args.table.now) c.args.images.now c.in-Made.places
    c.in_ok-parts-in-Made.parts c.in_ok-parts-in-Made.ensures c.requires

pub returns-in_ok-parts-in-Made : goal.returns-in_ok-parts-in-Made
returns-in_ok-parts-in-Made c =
    if_ok c.add_over.result c.add_over.ensures
    (λ place h trees k. subst (λ (z : Node). Adds c.args.table.now c.add_over.new.table z place)
    (made_node c.args.home.now c.args.table.now c.args.images.now trees c.in-Made.symbol c.in-Made.places
    c.in_ok-parts-in-Made.parts k c.in_ok-parts-in-Made.ensures
    ∙ ap (λ n. type_node c.args.home.now (node_tree trees n)) (sym c.in-Made.is)) h)
