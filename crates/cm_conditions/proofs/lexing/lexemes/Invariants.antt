use Rattle.std.proofs.Common.{◌≡◌, ◌++◌, length}
use Rattle.cm_conditions.specs.Lexemes.{lexemes_of}
use Rattle.cm_conditions.proofs.lexing.lexemes.Given as goal

-- the lexemes found, and those of what is left, are all
abbrev pub invariant-loop-byte : goal.invariant-loop-byte
invariant-loop-byte l = l.found ++ lexemes_of l.rest ≡ lexemes_of l.fn.text

abbrev pub decreases-loop-byte : goal.decreases-loop-byte
decreases-loop-byte l = length l.rest
