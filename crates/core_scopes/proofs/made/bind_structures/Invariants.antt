use Rattle.std.proofs.Common.{◌≡◌, ◌++◌, length, take}
use Rattle.core_scopes.specs.Listed.{env_rows}
use Rattle.core_scopes.proofs.made.bind_structures.Given as goal

-- what was bound so far, and the entries that are left
abbrev pub invariant-loop-entry : goal.invariant-loop-entry
invariant-loop-entry l = record {
  bound : l.trail ++ env_rows l.entry-iterator.rest.items ≡ l.fn.trail ++ env_rows l.fn.entries;
  kept : take (length l.fn.trail) l.trail ≡ l.fn.trail;
}
