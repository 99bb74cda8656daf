use Rattle.std.proofs.Common.{subst, sym, ap, ◌∙◌}
use Rattle.semantic_objects.specs.Nodes.{AreTree, root}
use Rattle.variable_names.specs.Named.{named, IsApart}
use Rattle.variable_names.proofs.Naming.{root_named, tree_named, root_apart}
use Rattle.variable_names.proofs.names.named.Goals as goal

pub from_nodes-requires : goal.from_nodes-requires
from_nodes-requires c = subst AreTree (sym c.in_ok-nodes.ensures.nodes)
    (tree_named c.nodes.result.now c.nodes.ensures.nodes)

pub returns-clause-tree : goal.returns-clause-tree
returns-clause-tree c = c.from_nodes.ensures ∙ ap root c.in_ok-nodes.ensures.nodes
    ∙ root_named c.nodes.result.now c.nodes.ensures.nodes ∙ ap named c.nodes.ensures.tree

pub returns-clause-apart : goal.returns-clause-apart
returns-clause-apart c =
    subst IsApart c.nodes.ensures.tree (root_apart c.nodes.result.now c.in_ok-nodes.ensures.apart)
