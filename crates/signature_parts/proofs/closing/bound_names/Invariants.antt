use Rattle.std.proofs.Common.{drop}
use Rattle.signature_parts.proofs.Finishing.{Renumbered}
use Rattle.signature_parts.proofs.closing.bound_names.Given as goal

-- the names so far, and those that are left
abbrev pub invariant-loop-old : goal.invariant-loop-old
invariant-loop-old l = Renumbered l.olds (drop l.old-index l.olds) l.names l.list
