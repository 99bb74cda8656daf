use Rattle.core_rules.proofs.Chains.{rule_passed, rule_stops, rule_checked}
use Rattle.core_rules.proofs.forms.apply.Goals as goal

pub returns-in_err-id : goal.returns-in_err-id
returns-in_err-id c =
    rule_passed c.from_residual.result c.in_err-id.field-0.0 c.from_residual.ensures.1
    (rule_stops c.args.at c.in_err-id.ensures)

pub returns : goal.returns
returns c =
    rw c.sized.ensures.table
    (rule_checked c.args.at c.in_ok-id.ensures c.sized.ensures.answer c.sized.ensures.same)
