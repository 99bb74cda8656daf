use Rattle.std.proofs.Common.{◌≡◌, [], take}
use Rattle.semantic_objects.specs.Tables.{with_all}
use Rattle.module_scopes.specs.Places.{sig_places}
use Rattle.module_scopes.proofs.whole.signature_rows.Given as goal

abbrev pub invariant-loop-row : goal.invariant-loop-row
invariant-loop-row l = l.rows ≡ with_all (sig_places (take l.row-index l.fn.made)) []
