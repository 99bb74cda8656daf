use Rattle.std.proofs.Common.{◌≡◌, ◌∙◌, sym, length, arith}
use Rattle.std.proofs.lemmas.Grind.{common_steps}
use Rattle.cm_lexer.proofs.Steps.{scan_end}
use Rattle.cm_lexer.proofs.scanner.Scanner.run.Goals as goal

pub returns : goal.returns
returns c =
    let s = c.loop-byte.self in
    let none : length s.rest.now ≡ 0 = grind (arith, common_steps) in
    sym (scan_end s.tokens s.first s.point s.rest.now none) ∙ c.loop-byte.invariant
