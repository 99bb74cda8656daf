use Rattle.std.proofs.Common.{length}
use Rattle.case_files.proofs.bytes.unescaped.Given as goal

-- what is left of the line grows shorter
abbrev pub decreases-loop-rest : goal.decreases-loop-rest
decreases-loop-rest l = length l.rest
