use Rattle.std.proofs.Common.{drop}
use Rattle.open_declarations.proofs.Opening.{OpenedSoFar}
use Rattle.open_declarations.proofs.names.entries_of.Given as goal

-- what was opened so far, and the environments that are left
abbrev pub invariant-loop-env : goal.invariant-loop-env
invariant-loop-env g l = OpenedSoFar l.fn.g l.fn.envs (drop l.env-index l.fn.envs) l.made
