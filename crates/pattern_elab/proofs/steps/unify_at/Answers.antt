use Rattle.std.proofs.Common.{sym, ◌∙◌}
use Rattle.unification.specs.Unification as unifying
use Rattle.pattern_elab.proofs.Stepping.{raw_unified, refused_by}
use Rattle.pattern_elab.proofs.steps.unify_at.Goals as goal

pub returns-in-Ok-clause-answer : goal.returns-in-Ok-clause-answer
returns-in-Ok-clause-answer c =
    sym (raw_unified c.args.t.now c.args.first c.args.second c.is_kept.ensures) ∙ c.in-Ok.ensures.answer

pub returns-in-Err-Clash-clause-answer : goal.returns-in-Err-Clash-clause-answer
returns-in-Err-Clash-clause-answer c =
    let k = rw c.in-Err-Clash.field-0-is at c.in-Err-Clash.ensures.answer in
    refused_by c.args.g.now c.args.at _ unifying.Fault.Clash _ _
    (sym (raw_unified c.args.t.now c.args.first c.args.second c.is_kept.ensures) ∙ k) c.refuse.ensures

pub returns-in-Err-Circular-clause-answer : goal.returns-in-Err-Circular-clause-answer
returns-in-Err-Circular-clause-answer c =
    let k = rw c.in-Err-Circular.field-0-is at c.in-Err-Circular.ensures.answer in
    refused_by c.args.g.now c.args.at _ unifying.Fault.Circular _ _
    (sym (raw_unified c.args.t.now c.args.first c.args.second c.is_kept.ensures) ∙ k)
    c.refuse-in-Err-Circular.ensures

pub returns-in-Err-NotEquality-clause-answer : goal.returns-in-Err-NotEquality-clause-answer
returns-in-Err-NotEquality-clause-answer c =
    let k = rw c.in-Err-NotEquality.field-0-is at c.in-Err-NotEquality.ensures.answer in
    refused_by c.args.g.now c.args.at _ unifying.Fault.NotEquality _ _
    (sym (raw_unified c.args.t.now c.args.first c.args.second c.is_kept.ensures) ∙ k)
    c.refuse-in-Err-NotEquality.ensures
