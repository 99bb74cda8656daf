use Rattle.type_nodes.proofs.Cells.{added_variable, state_added}
use Rattle.type_nodes.proofs.Stamps.{stamps_with_variable}
use Rattle.type_nodes.proofs.Ways.{ways_with_variable}
use Rattle.type_nodes.proofs.bindings.TypeBindings.add_variable.Goals as goal

pub invariant_of-self-in-Ok : goal.invariant_of-self-in-Ok
invariant_of-self-in-Ok c = record {
  table = added_variable _ _ _ _ _ _ _ c.args.birth c.self.invariant.table c.in-Ok.ensures.added
      c.in_ok-push_both.ensures.these c.in_ok-push_both.ensures.those;
  ways = ways_with_variable _ _ _ c.args.birth _ _ c.self.invariant.table.kept c.in-Ok.ensures.added c.self.invariant.ways;
  stamps = stamps_with_variable _ _ _ c.args.birth _ _ c.in-Ok.ensures.added c.self.invariant.stamps;
}

pub returns-in-Ok-clause-state : goal.returns-in-Ok-clause-state
returns-in-Ok-clause-state c = state_added _ _ _ _ _ c.args.birth _ c.self.invariant.table c.in-Ok.ensures.added c.self.view_is
