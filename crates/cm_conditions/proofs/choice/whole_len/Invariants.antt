use Rattle.std.proofs.Common.{◌≡◌, ◌+◌, ◌<◌, ◌^◌, ◌++◌, List, length}
use Rattle.cm_conditions.specs.Splitting.{closers_of, split_of}
use Rattle.cm_conditions.specs.declared.line.Line.{Line}
use Rattle.cm_conditions.proofs.choice.whole_len.Given as goal

-- what is counted is that of the lines behind those that are left
abbrev pub invariant-loop-line : goal.invariant-loop-line
invariant-loop-line l =
    (behind : List Line) × (l.fn.lines ≡ l.rest ++ behind) × (l.closers ≡ closers_of (split_of behind).tail)
    × (l.whole + length (split_of behind).rest ≡ length l.fn.lines) × (length l.fn.lines < 2 ^ 64)

abbrev pub decreases-loop-line : goal.decreases-loop-line
decreases-loop-line l = length l.rest
