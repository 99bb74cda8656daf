use Rattle.std.proofs.Common.{subst, sym, take}
use Rattle.type_nodes.specs.Nodes.{Store, AreMade}
use Rattle.type_nodes.proofs.Knowing.{store_cut}
use Rattle.type_nodes.proofs.nodes.TypeNodes.truncate.Goals as goal

pub invariant_of-self : goal.invariant_of-self
invariant_of-self c = rw (c.truncate.ensures.items, c.truncate-2.ensures.items, c.truncate-3.ensures.items)
    (store_cut _ c.self.inside.facts.items c.args.variables c.args.nodes c.self.invariant
    (subst (λ (s : Store). AreMade (record { births = take c.args.variables s.births; nodes = take c.args.nodes s.nodes }))
    (sym c.self.view_is) c.requires.made))
