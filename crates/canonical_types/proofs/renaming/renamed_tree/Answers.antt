use Rattle.std.proofs.Common.{sym, ap, ◌∙◌, subst}
use Rattle.semantic_objects.specs.Nodes.{AreTree, root}
use Rattle.realisation.specs.Canonical.{renamed}
use Rattle.canonical_types.specs.Orders.{by_order}
use Rattle.canonical_types.proofs.Mapped.{names_mapped}
use Rattle.canonical_types.proofs.Ordered.{keeps_arity}
use Rattle.canonical_types.proofs.renaming.renamed_tree.Goals as goal

pub from_nodes-requires : goal.from_nodes-requires
from_nodes-requires c = subst AreTree (sym c.in_ok-nodes.ensures)
    (names_mapped (by_order c.args.by.now) (keeps_arity c.args.by.now) c.nodes.result.now c.nodes.ensures.nodes).0

pub returns : goal.returns
returns c = c.from_nodes.ensures ∙ ap root c.in_ok-nodes.ensures
    ∙ (names_mapped (by_order c.args.by.now) (keeps_arity c.args.by.now) c.nodes.result.now c.nodes.ensures.nodes).1
    ∙ ap (renamed (by_order c.args.by.now)) c.nodes.ensures.tree
