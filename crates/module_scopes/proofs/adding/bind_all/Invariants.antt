use Rattle.std.proofs.Common.{◌≡◌, ◌++◌, take}
use Rattle.module_scopes.proofs.adding.bind_all.Given as goal

abbrev pub invariant-loop-row : goal.invariant-loop-row
invariant-loop-row g l = l.rows ≡ l.fn.rows ++ take l.row-index l.fn.more
