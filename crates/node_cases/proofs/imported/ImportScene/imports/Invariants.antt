use Rattle.std.proofs.Common.{length}
use Rattle.node_cases.proofs.imported.ImportScene.imports.Given as goal

-- three words fewer are left
abbrev pub decreases-loop-rest : goal.decreases-loop-rest
decreases-loop-rest l = length l.rest
