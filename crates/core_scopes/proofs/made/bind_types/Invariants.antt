use Rattle.std.proofs.Common.{◌≡◌, ◌++◌, length, take}
use Rattle.sml_modules.specs.Graphs.{type_rows}
use Rattle.core_scopes.proofs.made.bind_types.Given as goal

-- what was bound so far, and the entries that are left
abbrev pub invariant-loop-named : goal.invariant-loop-named
invariant-loop-named l = record {
  bound : l.trail ++ type_rows l.named-iterator.rest.items ≡ l.fn.trail ++ type_rows l.fn.entries;
  kept : take (length l.fn.trail) l.trail ≡ l.fn.trail;
}
