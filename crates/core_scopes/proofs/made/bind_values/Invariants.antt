use Rattle.std.proofs.Common.{◌≡◌, ◌++◌, length, take}
use Rattle.core_scopes.specs.Listed.{bound_rows}
use Rattle.core_scopes.proofs.made.bind_values.Given as goal

-- what was bound so far, and the entries that are left
abbrev pub invariant-loop-named : goal.invariant-loop-named
invariant-loop-named g l = record {
  bound : l.trail ++ bound_rows l.named-iterator.rest.items ≡ l.fn.trail ++ bound_rows l.fn.entries;
  kept : take (length l.fn.trail) l.trail ≡ l.fn.trail;
}
