use Rattle.std.proofs.Common.{◌≡◌, take}
use Rattle.core_scopes.specs.Listed.{env_rows}
use Rattle.signature_parts.proofs.scoping.list_structures.Given as goal

abbrev pub invariant-loop-row : goal.invariant-loop-row
invariant-loop-row l = env_rows l.list ≡ take l.row-index l.rows
