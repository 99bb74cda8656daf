use Rattle.std.proofs.Common.{◌∙◌, ap, cond, true}
use Rattle.cm_conditions.specs.Tables.{has_name, same_name}
use Rattle.cm_conditions.proofs.TableSteps.{one_in}
use Rattle.cm_conditions.proofs.names.modules_of.Goals as goal

pub loop-name-preserved : goal.loop-name-preserved
loop-name-preserved c = λ wanted.
    let old = has_name c.loop-name.set wanted in
    one_in c.args.modules.now c.loop-name.name-index c.name-item.result old (has_name c.insert.new.self wanted) wanted
    c.loop-name-test.true c.name-item.is
    (c.in_ok-insert.ensures.updates.0 wanted ∙ ap (λ key. cond (same_name key wanted) true old) c.in_ok-copied.ensures)
    ∙ c.loop-name.invariant wanted
