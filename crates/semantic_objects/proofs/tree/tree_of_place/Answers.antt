use Rattle.std.proofs.Common.{◌∙◌}
use Rattle.semantic_objects.proofs.Adding.{front_root}
use Rattle.semantic_objects.proofs.tree.tree_of_place.Goals as goal

pub returns : goal.returns
returns c = c.from_nodes.ensures
    ∙ front_root c.args.nodes.now c.in_ok-copy_nodes.field-0 c.args.at c.in_ok-copy_nodes.ensures c.requires.within
