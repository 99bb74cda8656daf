use Rattle.std.proofs.Common.{◌∙◌}
use Rattle.type_nodes.proofs.Cells.{front_entries, made_back, undone}
use Rattle.type_nodes.proofs.Stamps.{stamps_undone}
use Rattle.type_nodes.proofs.Ways.{ways_back}
use Rattle.type_nodes.proofs.bindings.TypeBindings.undo.Goals as goal

pub undo_to-requires : goal.undo_to-requires
undo_to-requires c = front_entries c.to.inside.past.value c.args.to.now c.args.self.now c.to.inside.variables
    c.to.inside.nodes c.to.inside.entries c.to.invariant c.to.view_is c.requires

pub truncate-requires : goal.truncate-requires
truncate-requires c = record {
  made = made_back c.to.inside.past.value c.args.to.now c.args.self.now
      (record { births = c.self.inside.types.births; nodes = c.self.inside.types.nodes; trail = c.self.inside.trail.items })
      c.to.inside.variables c.to.inside.nodes c.to.inside.entries c.to.invariant c.to.view_is c.requires
      (c.self.view_is ∙ c.undo_to.ensures);
}

pub invariant_of-self : goal.invariant_of-self
invariant_of-self c = record {
  table = undone c.to.inside.past.value c.args.to.now c.args.self.now
      (record { births = c.self.inside.types.births; nodes = c.self.inside.types.nodes; trail = c.self.inside.trail.items })
      c.truncate.new.self c.self.inside.links.items c.truncate-2.new.self.items c.self.inside.marks.items
      c.truncate-3.new.self.items c.to.inside.variables c.to.inside.nodes c.to.inside.entries c.to.invariant c.to.view_is
      c.requires (c.self.view_is ∙ c.undo_to.ensures) c.self.invariant.table c.truncate.ensures c.truncate-2.ensures.items
      c.truncate-3.ensures.items;
  ways = ways_back (record { births = c.self.inside.types.births; nodes = c.self.inside.types.nodes; trail = c.self.inside.trail.items }) _ _ _ _ c.next_era-self-inside.ensures c.self.invariant.ways;
  stamps = stamps_undone c.to.inside.past.value c.args.to.now c.args.self.now
      (record { births = c.self.inside.types.births; nodes = c.self.inside.types.nodes; trail = c.self.inside.trail.items })
      c.truncate.new.self c.self.inside.stamps.items c.truncate-4.new.self.items c.to.inside.variables c.to.inside.nodes
      c.to.inside.entries c.self.inside.cuts c.to.invariant c.to.view_is c.requires (c.self.view_is ∙ c.undo_to.ensures)
      c.truncate.ensures c.truncate-4.ensures.items c.self.invariant.stamps;
}
