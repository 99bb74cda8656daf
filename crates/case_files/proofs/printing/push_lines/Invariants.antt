use Rattle.std.proofs.Common.{length}
use Rattle.case_files.proofs.printing.push_lines.Given as goal

-- what is left of the bytes grows shorter
abbrev pub decreases-loop-at : goal.decreases-loop-at
decreases-loop-at l = length l.rest
