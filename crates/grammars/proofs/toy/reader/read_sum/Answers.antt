use Rattle.std.proofs.Common.{◌≡◌, ◌≢◌, arith, length}
use Rattle.std.proofs.lemmas.Grind.{common_steps}
use Rattle.grammars.specs.Seen.{seen}
use Rattle.grammars.proofs.SumSteps.{whole_answer, more_answer, refused_answer, deep_answer}
use Rattle.grammars.proofs.toy.reader.read_sum.Goals as goal

pub returns-in-Ok : goal.returns-in-Ok
returns-in-Ok c =
    let none : length c.sum.new.cursor.rest.now ≡ 0 = grind (arith, common_steps) in
    whole_answer c.args.limit c.args.tokens.now c.sum.new.cursor.rest.now c.in-Ok.made c.in-Ok.ensures.reads none

pub returns-in-Ok-2 : goal.returns-in-Ok-2
returns-in-Ok-2 c =
    let some : length c.sum.new.cursor.rest.now ≢ 0 = grind (arith, common_steps) in
    rw c.place.ensures
    (more_answer c.args.limit c.args.tokens.now c.sum.new.cursor.rest.now (seen c.in-Ok-2.field-0)
    c.in-Ok-2.ensures.reads some)

pub returns-in-Err-Refused : goal.returns-in-Err-Refused
returns-in-Err-Refused c =
    let refused = rw c.in-Err-Refused.field-0-is at c.in-Err-Refused.ensures.reads in
    rw c.place-in-Err-Refused.ensures
    (refused_answer c.args.limit c.args.tokens.now c.sum.new.cursor.rest.now refused)

pub returns-in-Err-TooDeep : goal.returns-in-Err-TooDeep
returns-in-Err-TooDeep c =
    let deep = rw c.in-Err-TooDeep.field-0-is at c.in-Err-TooDeep.ensures.reads in
    rw c.place-in-Err-TooDeep.ensures (deep_answer c.args.limit c.args.tokens.now c.sum.new.cursor.rest.now deep)
