use Rattle.std.proofs.Common.{take}
use Rattle.core_scopes.specs.Scopes.{AreEnvs}
use Rattle.core_scopes.proofs.scope.are_envs.Given as goal

-- the first rows' are
abbrev pub invariant-loop-row : goal.invariant-loop-row
invariant-loop-row l = AreEnvs l.g (take l.row-index l.rows)
