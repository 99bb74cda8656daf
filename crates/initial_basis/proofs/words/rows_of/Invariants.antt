use Rattle.std.proofs.Common.{◌≡◌, ◌++◌, map, drop}
use Rattle.initial_basis.specs.Phrases.{rows_of}
use Rattle.initial_basis.proofs.words.rows_of.Given as goal

abbrev pub invariant-loop-line : goal.invariant-loop-line
invariant-loop-line l =
    l.rows ++ rows_of (map (λ line. line.now) (drop l.line-index l.lines)) ≡ rows_of (map (λ line. line.now) l.lines)
