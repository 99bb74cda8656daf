use Rattle.std.proofs.Common.{subst, sym, ap, ◌∙◌}
use Rattle.type_nodes.specs.Tables.{state, whole, bound_in}
use Rattle.type_nodes.specs.Keeping.{MayStand}
use Rattle.type_nodes.proofs.Binding.{state_bound}
use Rattle.type_nodes.proofs.Cells.{table_bound}
use Rattle.type_nodes.proofs.Stamps.{stamps_bound}
use Rattle.type_nodes.proofs.Ways.{ways_bound}
use Rattle.type_nodes.proofs.bindings.TypeBindings.bind.Goals as goal

pub invariant_of-self-2 : goal.invariant_of-self-2
invariant_of-self-2 c = rw c.in_ok-push.ensures.items (record {
  table = table_bound _ _ _ c.args.variable c.args.to c.self.invariant.table
      (subst (λ t. MayStand t c.args.variable c.args.to) (sym c.self.view_is) c.requires);
  ways = ways_bound _ c.args.variable c.args.to _ _ c.self.invariant.ways;
  stamps = stamps_bound _ c.args.variable c.args.to _ _
      (subst (λ t. MayStand t c.args.variable c.args.to) (sym c.self.view_is) c.requires).at.flexible c.self.invariant.stamps;
})

pub returns-clause-state : goal.returns-clause-state
returns-clause-state c = rw c.in_ok-push.ensures.items (state_bound (record { births = c.self.inside.types.births; nodes = c.self.inside.types.nodes; trail = c.self.inside.trail.items }) c.args.variable c.args.to
    ∙ ap (λ t. bound_in c.args.variable (whole t c.args.to) (state t)) c.self.view_is)
