use Rattle.std.proofs.Common.{subst}
use Rattle.sml_modules.specs.Graphs.{Graph}
use Rattle.core_rules.specs.Entered.{IsEntered}
use Rattle.core_rules.proofs.entered.enter_variables.Goals as goal

pub returns-in-Ok-clause-ok : goal.returns-in-Ok-clause-ok
returns-in-Ok-clause-ok c =
    subst (λ rows. (g : Graph) → IsEntered g rows c.args.scope.now c.bind_rows.new.scope) c.rows.ensures
    c.in-Ok.ensures.ok
