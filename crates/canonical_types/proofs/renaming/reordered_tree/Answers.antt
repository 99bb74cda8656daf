use Rattle.std.proofs.Common.{sym, ap, ◌∙◌, subst}
use Rattle.semantic_objects.specs.Nodes.{AreTree, root}
use Rattle.unification.specs.Closing.{plug}
use Rattle.canonical_types.proofs.Mapped.{by_place, variables_mapped}
use Rattle.canonical_types.proofs.renaming.reordered_tree.Goals as goal

pub from_nodes-requires : goal.from_nodes-requires
from_nodes-requires c = subst AreTree (sym c.in_ok-nodes.ensures)
    (variables_mapped c.args.by.now c.nodes.result.now c.nodes.ensures.nodes).0

pub returns : goal.returns
returns c = c.from_nodes.ensures ∙ ap root c.in_ok-nodes.ensures
    ∙ (variables_mapped c.args.by.now c.nodes.result.now c.nodes.ensures.nodes).1
    ∙ ap (plug (by_place c.args.by.now)) c.nodes.ensures.tree
