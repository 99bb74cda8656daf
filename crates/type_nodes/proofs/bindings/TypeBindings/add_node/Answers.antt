use Rattle.std.proofs.Common.{subst, sym}
use Rattle.type_nodes.specs.Nodes.{IsNode}
use Rattle.type_nodes.specs.Tables.{store_of}
use Rattle.type_nodes.proofs.Cells.{added_node, state_kept}
use Rattle.type_nodes.proofs.Stamps.{stamps_with_node}
use Rattle.type_nodes.proofs.Ways.{ways_with_node}
use Rattle.type_nodes.proofs.bindings.TypeBindings.add_node.Goals as goal

pub invariant_of-self-2 : goal.invariant_of-self-2
invariant_of-self-2 c = record {
  table = added_node _ _ _ _ _ c.args.node c.self.invariant.table
      (subst (λ t. IsNode (store_of t) c.args.node) (sym c.self.view_is) c.requires) c.in_ok-add_node.ensures.added;
  ways = ways_with_node _ _ _ c.args.node _ _ c.self.invariant.table.history c.in_ok-add_node.ensures.added c.self.invariant.ways;
  stamps = stamps_with_node _ _ _ c.args.node _ _ c.self.invariant.table.history c.in_ok-add_node.ensures.added c.self.invariant.stamps;
}

pub returns-clause-state : goal.returns-clause-state
returns-clause-state c = state_kept _ _ _ _ _ c.args.node _ c.self.invariant.table c.in_ok-add_node.ensures.added c.self.view_is
