use Rattle.std.proofs.Common.{◌≡◌, ◌++◌, take}
use Rattle.canonical_walks.proofs.binders.add_names.Given as goal

abbrev pub invariant-loop-name : goal.invariant-loop-name
invariant-loop-name l = l.list ≡ l.fn.list ++ take l.name-index l.fn.names
