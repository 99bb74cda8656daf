use Rattle.type_phrases.specs.Steps.{IsApplied}
use Rattle.type_phrases.proofs.PartsRead.{passed_on, applied_unknown, applied_refused, applied_made}
use Rattle.type_phrases.proofs.reading.applied.Goals as goal

pub returns-in_err-found : goal.returns-in_err-found
returns-in_err-found g c =
    passed_on (λ r. IsApplied c.args.g.now c.args.t.now c.args.scope.now c.args.args.now c.args.long.now c.args.at
    c.args.t.now r) c.from_residual.result c.in_err-found.field-0.0 c.from_residual.ensures.1
    (applied_unknown c.args.g.now c.args.t.now c.args.scope.now c.args.args.now c.args.long.now c.args.at
    c.in_err-found.field-0.0 (c.in_err-found.ensures c.args.t.now))

pub returns-then-len-found : goal.returns-then-len-found
returns-then-len-found g c =
    applied_refused c.args.g.now c.args.t.now c.args.scope.now c.args.args.now c.args.long.now c.args.at
    c.in_ok-found.found c.refusal.result c.len.result c.new.result (c.in_ok-found.ensures c.args.t.now) c.len.ensures
    c.if-len-found.true c.new.ensures c.refusal.ensures

pub returns : goal.returns
returns g c =
    applied_made c.args.g.now c.args.t.now c.apply.new.self c.args.scope.now c.args.args.now c.args.long.now c.args.at
    c.in_ok-found.found c.in_ok-apply.field-0 c.len.result (c.in_ok-found.ensures c.args.t.now) c.len.ensures
    c.if-len-found.false c.in_ok-apply.ensures.made c.in_ok-apply.ensures.has c.in_ok-apply.ensures.extends
    c.in_ok-apply.ensures.state
