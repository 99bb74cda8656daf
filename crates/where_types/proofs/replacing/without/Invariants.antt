use Rattle.std.proofs.Common.{◌≡◌, ◌++◌, drop}
use Rattle.where_types.proofs.Names.{others}
use Rattle.where_types.proofs.replacing.without.Given as goal

abbrev pub invariant-loop-other : goal.invariant-loop-other
invariant-loop-other l = l.left ++ others l.name (drop l.other-index l.names) ≡ others l.name l.names
