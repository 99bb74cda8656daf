use Rattle.std.proofs.Common.{subst, sym}
use Rattle.type_nodes.specs.Tables.{LinkedTo}
use Rattle.type_nodes.proofs.Ways.{ways_more}
use Rattle.type_nodes.proofs.bindings.TypeBindings.keep_way.Goals as goal

pub invariant_of-self : goal.invariant_of-self
invariant_of-self c = record {
  table = c.self.invariant.table;
  ways = ways_more (record { births = c.self.inside.types.births; nodes = c.self.inside.types.nodes; trail = c.self.inside.trail.items })
      c.args.variable _ _ c.args.to _ (subst (λ t. LinkedTo t c.args.variable c.args.to) (sym c.self.view_is) c.requires)
      c.keep_at.ensures c.self.invariant.ways;
  stamps = c.self.invariant.stamps;
}
