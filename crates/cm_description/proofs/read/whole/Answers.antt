use Rattle.std.proofs.Common.{◌∙◌, ap, sym}
use Rattle.cm_base.specs.declared.diag.Place.{Place}
use Rattle.cm_description.specs.Answers.{refusal_at}
use Rattle.cm_description.proofs.Wholes.{whole_answer, more_answer, refused_answer, taken_two, bad_answer}
use Rattle.cm_description.proofs.read.whole.Goals as goal

pub returns-then-is_end : goal.returns-then-is_end
returns-then-is_end c =
    whole_answer c.args.source.now.file.now c.args.source.now.bytes.now c.args.scan.now c.as_slice-tokens.result.now
    c.requires c.as_slice-tokens.ensures c.in-Ok.found c.description.new.cursor.rest.now c.in-Ok.ensures
    (sym c.is_end.ensures ∙ c.if-is_end.true)

pub returns-in_ok-at-in-Ok : goal.returns-in_ok-at-in-Ok
returns-in_ok-at-in-Ok c =
    more_answer c.args.source.now.file.now c.args.source.now.bytes.now c.args.scan.now c.as_slice-tokens.result.now
    c.requires c.as_slice-tokens.ensures c.in-Ok.found c.description.new.cursor.rest.now c.refusal_at.result
    c.in-Ok.ensures (sym c.is_end.ensures ∙ c.if-is_end.false)
    (c.refusal_at.ensures ∙ ap (λ (at : Place). refusal_at 2 at) c.in_ok-at-in-Ok.ensures)

pub returns-in_ok-at-in-Err-Refused : goal.returns-in_ok-at-in-Err-Refused
returns-in_ok-at-in-Err-Refused c =
    let stop = rw c.in-Err-Refused.field-0-is at c.in-Err-Refused.ensures in
    refused_answer c.args.source.now.file.now c.args.source.now.bytes.now c.args.scan.now c.as_slice-tokens.result.now
    c.requires c.as_slice-tokens.ensures c.description.new.cursor.rest.now c.refusal_at-in-Err-Refused.result stop
    (c.refusal_at-in-Err-Refused.ensures ∙ ap (λ (at : Place). refusal_at 2 at) c.in_ok-at-in-Err-Refused.ensures)

pub last_directive-requires : goal.last_directive-requires
last_directive-requires c =
    let stop = rw c.in-Err-BadCondition.field-0-is at c.in-Err-BadCondition.ensures in
    rw c.taken-taken.ensures
    (taken_two c.args.source.now.file.now c.args.source.now.bytes.now c.args.scan.now c.as_slice-tokens.result.now
    c.requires c.as_slice-tokens.ensures c.description.new.cursor.rest.now stop)

pub returns-in_ok-last_directive-in-Err-BadCondition : goal.returns-in_ok-last_directive-in-Err-BadCondition
returns-in_ok-last_directive-in-Err-BadCondition c =
    let stop = rw c.in-Err-BadCondition.field-0-is at c.in-Err-BadCondition.ensures in
    bad_answer c.args.source.now.file.now c.args.source.now.bytes.now c.args.scan.now c.as_slice-tokens.result.now
    c.requires c.as_slice-tokens.ensures c.description.new.cursor.rest.now
    c.in_ok-last_directive-in-Err-BadCondition.field-0 stop
    (rw c.taken-taken.ensures at c.in_ok-last_directive-in-Err-BadCondition.ensures)
