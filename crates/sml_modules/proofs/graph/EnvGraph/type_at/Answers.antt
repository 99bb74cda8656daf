use Rattle.std.proofs.Common.{◌≡◌, subst}
use Rattle.std.specs.Prelude.{IfOk}
use Rattle.sml_modules.specs.Adding.{StandsAt}
use Rattle.sml_modules.proofs.Looking.{reads_type}
use Rattle.sml_modules.proofs.graph.EnvGraph.type_at.Goals as goal

pub returns-in-TypeStr : goal.returns-in-TypeStr
returns-in-TypeStr c = subst (λ z. IfOk c.copy_type.result (λ entry. entry ≡ z))
    (reads_type c.args.self.now.items c.args.place c.in-TypeStr.kept
    (subst (StandsAt c.args.self.now.items c.args.place) c.in-TypeStr.is c.in-Some.ensures.node))
    c.copy_type.ensures
