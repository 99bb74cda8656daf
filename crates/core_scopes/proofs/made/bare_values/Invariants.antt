use Rattle.std.proofs.Common.{◌≡◌, ◌++◌}
use Rattle.sml_modules.specs.Items.{map_rows}
use Rattle.core_scopes.specs.Scopes.{bare}
use Rattle.core_scopes.specs.Listed.{bound_rows, scope_rows}
use Rattle.core_scopes.proofs.made.bare_values.Given as goal

-- what is listed so far, and the entries that are left
abbrev pub invariant-loop-named : goal.invariant-loop-named
invariant-loop-named g l =
    bound_rows l.list ++ map_rows bare (scope_rows l.named-iterator.rest.items) ≡ map_rows bare (scope_rows l.fn.entries)
