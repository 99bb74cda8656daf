use Rattle.core_rules.proofs.Chains.{rule_passed, rule_stops, rule_checked}
use Rattle.std.specs.Prelude.{Ok, Err}
use Rattle.declaration_forms.proofs.Declared.{let_rule}
use Rattle.declaration_forms.proofs.ends.end_let.Goals as goal

pub returns-in_err-id : goal.returns-in_err-id
returns-in_err-id c =
    rule_passed c.from_residual.result c.in_err-id.field-0.0 c.from_residual.ensures.1
    (rule_stops c.args.at
    (let_rule c.args.g.now c.args.t.now c.args.at c.args.from c.args.to c.args.id (Err c.in_err-id.field-0.0) c.requires
    c.in_err-id.ensures.answer tt))

pub returns : goal.returns
returns c =
    rw c.sized.ensures.table
    (rule_checked c.args.at
    (let_rule c.args.g.now c.args.t.now c.args.at c.args.from c.args.to c.args.id (Ok c.in_ok-id.id) c.requires
    c.in_ok-id.ensures.answer c.in_ok-id.ensures.same) c.sized.ensures.answer c.sized.ensures.same)
