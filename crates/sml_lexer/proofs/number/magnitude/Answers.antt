use Rattle.std.proofs.Common.{arith}
use Rattle.std.proofs.lemmas.Grind.{common_steps}
use Rattle.std.proofs.lemmas.Bool.Decides.{nat_tests}
use Rattle.std.proofs.Common.{◌+◌, ◌*◌, ◌^◌, ◌<◌, get_or, drop}
use Rattle.std.proofs.lemmas.List.{at_drop_more}
use Rattle.std.specs.Char.{digit_value}
use Rattle.std.specs.Str.Parse.{digits_value, digits_value_after}
use Rattle.sml_lexer.proofs.NumbersLemmas.{le-digits_value_after}
use Rattle.sml_lexer.proofs.number.magnitude.Goals as goal

pub returns-then-next : goal.returns-then-next
returns-then-next c =
    let l = c.loop-byte in
    let ds = c.args.digits.now in
    let radix = c.args.radix in
    let i = l.byte-index in
    let next = l.value * radix + digit_value (get_or ds i 0) in
    let turn = at_drop_more (digits_value_after radix l.value) ds i 0 c.loop-byte-test.true in
    let grown = le-digits_value_after radix next (drop (i + 1) ds) (omega (arith, c.requires.low)) in
    let large : 2 ^ 63 < digits_value radix ds = grind (arith, common_steps) in
    grind (arith, nat_tests, common_steps)
