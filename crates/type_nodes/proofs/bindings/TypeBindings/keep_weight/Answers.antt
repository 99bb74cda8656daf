use Rattle.std.proofs.Common.{◌<◌, length, refl, subst, sym, arith}
use Rattle.type_nodes.specs.Tables.{Table}
use Rattle.type_nodes.specs.Stamps.{Weighs}
use Rattle.type_nodes.proofs.Stamps.{stamps_more}
use Rattle.type_nodes.proofs.bindings.TypeBindings.keep_weight.Goals as goal

pub invariant_of-self : goal.invariant_of-self
invariant_of-self c = record {
  table = c.self.invariant.table;
  ways = c.self.invariant.ways;
  stamps = stamps_more (record { births = c.self.inside.types.births; nodes = c.self.inside.types.nodes; trail = c.self.inside.trail.items })
      c.args.node _ _ _ _ refl (record {
        has = subst (λ (t : Table). c.args.node < length t.nodes) (sym c.self.view_is) c.requires.has;
        within = (let k = c.len-entries.ensures in omega (arith, k));
        weighs = λ z. subst (λ t. Weighs t c.args.node c.args.weight) (sym c.self.view_is) c.requires.weighs;
      }) c.keep_at.ensures c.self.invariant.stamps;
}
