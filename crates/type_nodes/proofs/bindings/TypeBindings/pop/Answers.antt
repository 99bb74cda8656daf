use Rattle.std.proofs.Common.{rules, ◌≡◌, ◌++◌, ◌∷◌, []}
use Rattle.type_nodes.proofs.Cells.{table_pop, last_within}
use Rattle.type_nodes.proofs.Stamps.{stamps_back}
use Rattle.type_nodes.proofs.Ways.{ways_back}
use Rattle.type_nodes.proofs.bindings.TypeBindings.pop.Goals as goal

pub take_back-requires-clause-links : goal.take_back-requires-clause-links
take_back-requires-clause-links c =
    let e : c.self.inside.trail.items ≡ c.pop.new.self.items ++ c.in-Some.last ∷ [] = search rules in
    (last_within (record { births = c.self.inside.types.births; nodes = c.self.inside.types.nodes; trail = c.self.inside.trail.items }) _ _ _ _ c.in-Some.last c.self.invariant.table e).0

pub take_back-requires-clause-marks : goal.take_back-requires-clause-marks
take_back-requires-clause-marks c =
    let e : c.self.inside.trail.items ≡ c.pop.new.self.items ++ c.in-Some.last ∷ [] = search rules in
    (last_within (record { births = c.self.inside.types.births; nodes = c.self.inside.types.nodes; trail = c.self.inside.trail.items }) _ _ _ _ c.in-Some.last c.self.invariant.table e).1

pub invariant_of-self : goal.invariant_of-self
invariant_of-self c =
    let e : c.self.inside.trail.items ≡ c.pop.new.self.items ++ c.in-Some.last ∷ [] = search rules in
    record {
      table = table_pop (record { births = c.self.inside.types.births; nodes = c.self.inside.types.nodes; trail = c.self.inside.trail.items }) _ _ _ _ _ _ c.in-Some.last c.self.invariant.table e c.take_back.ensures.links c.take_back.ensures.marks;
      ways = ways_back (record { births = c.self.inside.types.births; nodes = c.self.inside.types.nodes; trail = c.self.inside.trail.items }) _ _ _ _ c.next_era-era.ensures c.self.invariant.ways;
      stamps = stamps_back (record { births = c.self.inside.types.births; nodes = c.self.inside.types.nodes; trail = c.self.inside.trail.items }) _ _ _ _ c.next_era-cuts.ensures c.self.invariant.stamps;
    }
