use Rattle.std.proofs.Common.{length}
use Rattle.node_cases.proofs.hex_words.bytes_of.Given as goal

-- two digits fewer are left
abbrev pub decreases-loop-rest : goal.decreases-loop-rest
decreases-loop-rest l = length l.rest
