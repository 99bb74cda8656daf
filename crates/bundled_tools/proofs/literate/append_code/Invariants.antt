use Rattle.std.proofs.Common.{◌≡◌, ◌++◌, length}
use Rattle.bundled_tools.specs.Lines.{code_text}
use Rattle.bundled_tools.proofs.literate.append_code.Given as goal

-- what is written, and what is left to write
abbrev pub invariant-loop-line : goal.invariant-loop-line
invariant-loop-line l = l.out ++ code_text l.rest ≡ l.fn.out ++ code_text l.fn.input

abbrev pub decreases-loop-line : goal.decreases-loop-line
decreases-loop-line l = length l.rest
