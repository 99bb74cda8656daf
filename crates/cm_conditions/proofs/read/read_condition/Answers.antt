use Rattle.std.proofs.Common.{◌≡◌, ◌≢◌, ◌-◌, arith, length, inl, inr}
use Rattle.std.proofs.lemmas.Grind.{common_steps}
use Rattle.grammars.proofs.Texts.{refused_read, too_deep_read}
use Rattle.cm_conditions.specs.Grammar.{condition}
use Rattle.cm_conditions.specs.Lexemes.{lexemes_of}
use Rattle.cm_conditions.proofs.ReadAnswers.{whole_answer, more_answer}
use Rattle.cm_conditions.proofs.read.read_condition.Goals as goal

pub returns-in-Ok : goal.returns-in-Ok
returns-in-Ok c =
    let rest = c.condition.new.cursor.rest.now in
    let is = rw (c.as_slice.ensures, c.in_ok-found.ensures, c.as_bytes.ensures) at c.in-Ok.ensures in
    let none : length rest ≡ 0 = grind (arith, common_steps) in
    whole_answer 128 (lexemes_of c.args.text.now) rest c.in-Ok.cond is none

pub returns-in-Ok-2 : goal.returns-in-Ok-2
returns-in-Ok-2 c =
    let xs = lexemes_of c.args.text.now in
    let rest = c.condition.new.cursor.rest.now in
    let is = rw (c.as_slice.ensures, c.in_ok-found.ensures, c.as_bytes.ensures) at c.in-Ok-2.ensures in
    let some : length rest ≢ 0 = grind (arith, common_steps) in
    inl (length xs - length rest, c.in_ok-bad_condition-in-Ok-2.ensures, more_answer 128 xs rest c.in-Ok-2.field-0 is some)

pub returns-in-Err-Refused : goal.returns-in-Err-Refused
returns-in-Err-Refused c =
    let xs = lexemes_of c.args.text.now in
    let rest = c.condition.new.cursor.rest.now in
    let stop = rw c.in-Err-Refused.field-0-is at c.in-Err-Refused.ensures in
    let is = rw (c.as_slice.ensures, c.in_ok-found.ensures, c.as_bytes.ensures) at stop in
    inl (length xs - length rest, c.in_ok-bad_condition-in-Err-Refused.ensures, refused_read (condition 128) xs rest is)

pub returns-in-Err-TooDeep : goal.returns-in-Err-TooDeep
returns-in-Err-TooDeep c =
    let xs = lexemes_of c.args.text.now in
    let rest = c.condition.new.cursor.rest.now in
    let stop = rw c.in-Err-TooDeep.field-0-is at c.in-Err-TooDeep.ensures in
    let is = rw (c.as_slice.ensures, c.in_ok-found.ensures, c.as_bytes.ensures) at stop in
    inr (length xs - length rest, c.in_ok-on_file-in-Err-TooDeep.ensures, too_deep_read (condition 128) xs rest is)
