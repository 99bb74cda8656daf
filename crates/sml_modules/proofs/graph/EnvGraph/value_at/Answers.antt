use Rattle.std.proofs.Common.{◌≡◌, subst}
use Rattle.std.specs.Prelude.{IfOk}
use Rattle.sml_modules.specs.Adding.{StandsAt}
use Rattle.sml_modules.proofs.Looking.{reads_value}
use Rattle.sml_modules.proofs.graph.EnvGraph.value_at.Goals as goal

pub returns-in-Value : goal.returns-in-Value
returns-in-Value c = subst (λ z. IfOk c.copy_value.result (λ entry. entry ≡ z))
    (reads_value c.args.self.now.items c.args.place c.in-Value.kept
    (subst (StandsAt c.args.self.now.items c.args.place) c.in-Value.is c.in-Some.ensures.node))
    c.copy_value.ensures
