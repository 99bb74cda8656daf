use Rattle.std.proofs.Common.{◌≡◌, [], take}
use Rattle.semantic_objects.specs.Tables.{with_all}
use Rattle.module_scopes.specs.Places.{fun_places}
use Rattle.module_scopes.proofs.whole.functor_rows.Given as goal

abbrev pub invariant-loop-row : goal.invariant-loop-row
invariant-loop-row l = l.rows ≡ with_all (fun_places (take l.row-index l.fn.made)) []
