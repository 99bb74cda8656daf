use Rattle.std.proofs.Common.{◌≡◌, ◌+◌, ◌-◌, ℕ, length, slice_get, Some}
use Rattle.type_nodes.proofs.kept.make_room.Given as goal

abbrev pub invariant-loop-items : goal.invariant-loop-items
invariant-loop-items g l =
    (p : ℕ) (x : _) → slice_get l.items.items p ≡ Some (Some x) → slice_get l.fn.items.items p ≡ Some (Some x)

abbrev pub decreases-loop-items : goal.decreases-loop-items
decreases-loop-items g l = l.fn.at + 1 - length l.items.items
