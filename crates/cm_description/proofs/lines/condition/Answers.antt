use Rattle.std.proofs.Common.{ℕ, List, Err, subst}
use Rattle.cm_conditions.specs.Answers.{ReadsCondition}
use Rattle.cm_description.proofs.Conditions.{bad_says}
use Rattle.cm_description.proofs.lines.condition.Goals as goal

pub returns-in-Err : goal.returns-in-Err
returns-in-Err c =
    bad_says c.args.at.now c.args.text.now c.args.modules c.in-Err.fault c.bad_condition.result
    (subst (λ (t : List ℕ). ReadsCondition c.args.at.now t (Err c.in-Err.fault)) c.in_ok-text.ensures c.in-Err.ensures)
    c.bad_condition.ensures
