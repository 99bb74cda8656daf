use Rattle.std.proofs.Common.{◌≡◌, ◌++◌}
use Rattle.core_scopes.specs.Listed.{scope_rows}
use Rattle.exception_bindings.specs.Exceptions.{entry_rows}
use Rattle.exception_bindings.proofs.bindings.in_scope.Given as goal

-- what was listed, and the entries that are left
abbrev pub invariant-loop-named : goal.invariant-loop-named
invariant-loop-named g l = scope_rows l.values ++ entry_rows l.named-iterator.rest.items ≡ entry_rows l.fn.entries
