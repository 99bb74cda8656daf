use Rattle.std.proofs.Common.{◌≡◌, length, arith}
use Rattle.std.proofs.lemmas.Grind.{common_steps}
use Rattle.cm_conditions.specs.Lexemes.{lexemes_of}
use Rattle.cm_conditions.proofs.LexingSteps.{all_found}
use Rattle.cm_conditions.proofs.lexing.lexemes.Goals as goal

pub returns : goal.returns
returns c =
    let rest = c.loop-byte.rest.now in
    let none : length rest ≡ 0 = grind (arith, common_steps) in
    all_found c.loop-byte.found (lexemes_of c.args.text.now) rest none c.loop-byte.invariant
