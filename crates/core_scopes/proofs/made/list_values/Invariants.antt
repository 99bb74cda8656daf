use Rattle.std.proofs.Common.{◌≡◌, take}
use Rattle.sml_modules.specs.Items.{map_rows}
use Rattle.core_scopes.specs.Scopes.{value_of}
use Rattle.core_scopes.specs.Listed.{scope_rows}
use Rattle.core_scopes.proofs.made.list_values.Given as goal

abbrev pub invariant-loop-row : goal.invariant-loop-row
invariant-loop-row g l = scope_rows l.list ≡ map_rows value_of (take l.row-index l.rows)
