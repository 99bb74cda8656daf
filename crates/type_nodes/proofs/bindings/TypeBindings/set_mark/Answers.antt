use Rattle.std.proofs.Common.{subst, sym, ap, ◌∙◌}
use Rattle.type_nodes.specs.Tables.{state, marked_state}
use Rattle.type_nodes.specs.Keeping.{MayMark}
use Rattle.type_nodes.proofs.Binding.{state_marked}
use Rattle.type_nodes.proofs.Cells.{table_marked}
use Rattle.type_nodes.proofs.Stamps.{stamps_marked}
use Rattle.type_nodes.proofs.Ways.{ways_marked}
use Rattle.type_nodes.proofs.bindings.TypeBindings.set_mark.Goals as goal

pub invariant_of-self-2 : goal.invariant_of-self-2
invariant_of-self-2 c = rw c.in_ok-push.ensures.items (record {
  table = table_marked _ _ _ c.args.variable c.self.invariant.table
      (subst (λ t. MayMark t c.args.variable) (sym c.self.view_is) c.requires);
  ways = ways_marked _ c.args.variable _ _ c.self.invariant.ways;
  stamps = stamps_marked _ c.args.variable _ _ c.self.invariant.stamps;
})

pub returns-clause-state : goal.returns-clause-state
returns-clause-state c = rw c.in_ok-push.ensures.items (state_marked (record { births = c.self.inside.types.births; nodes = c.self.inside.types.nodes; trail = c.self.inside.trail.items }) c.args.variable
    ∙ ap (λ t. marked_state c.args.variable (state t)) c.self.view_is)
