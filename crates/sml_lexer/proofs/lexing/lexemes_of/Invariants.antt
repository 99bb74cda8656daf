use Rattle.std.proofs.Common.{◌≡◌, ◌≤◌, ◌+◌, length}
use Rattle.sml_lexer.specs.Lexing.{lexemes_after}
use Rattle.sml_lexer.proofs.LexingLemmas.{before}
use Rattle.sml_lexer.proofs.lexing.lexemes_of.Given as goal

-- the lexemes found and those of the rest are all; places are at most as far as the bytes that are gone
abbrev pub invariant-loop-rest : goal.invariant-loop-rest
invariant-loop-rest l = record {
  all : before l.lexemes (lexemes_after l.fn.file 0 l.at l.rest) ≡ lexemes_after l.fn.file 0 (record { line = 1; col = 1 }) l.fn.text;
  lines : l.at.line + length l.rest ≤ length l.fn.text + 1;
  cols : l.at.col + length l.rest ≤ length l.fn.text + 1;
}

abbrev pub decreases-loop-rest : goal.decreases-loop-rest
decreases-loop-rest l = length l.rest
