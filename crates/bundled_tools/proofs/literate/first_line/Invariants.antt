use Rattle.std.proofs.Common.{take}
use Rattle.bundled_tools.proofs.Lines.{NoFeed}
use Rattle.bundled_tools.proofs.literate.first_line.Given as goal

-- no byte before this one is a line feed
abbrev pub invariant-loop-at : goal.invariant-loop-at
invariant-loop-at l = NoFeed (take l.at l.text)
