use Rattle.std.proofs.Common.{◌≡◌, ◌≤◌, length}
use Rattle.type_nodes.specs.Tables.{cut}
use Rattle.type_nodes.proofs.bindings.TypeBindings.undo_to.Given as goal

abbrev pub invariant-loop-self : goal.invariant-loop-self
invariant-loop-self l = record {
  front : l.self ≡ cut (length l.self.trail) l.fn.self;
  enough : l.fn.entries ≤ length l.self.trail;
  within : length l.self.trail ≤ length l.fn.self.trail;
}

abbrev pub decreases-loop-self : goal.decreases-loop-self
decreases-loop-self l = length l.self.trail
