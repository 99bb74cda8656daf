use Rattle.std.proofs.Common.{◌≡◌, length}
use Rattle.cm_lexer.specs.Tokens.{onto, scan_from}
use Rattle.cm_lexer.proofs.scanner.Scanner.run.Given as goal

-- the tokens found, and those of what is left, are all
abbrev pub invariant-loop-byte : goal.invariant-loop-byte
invariant-loop-byte l =
    onto l.self.tokens (scan_from l.self.first l.self.point l.self.rest.now)
    ≡ onto l.fn.self.tokens (scan_from l.fn.self.first l.fn.self.point l.fn.self.rest.now)

abbrev pub decreases-loop-byte : goal.decreases-loop-byte
decreases-loop-byte l = length l.self.rest.now
