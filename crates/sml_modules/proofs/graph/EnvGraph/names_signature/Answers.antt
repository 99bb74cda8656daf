use Rattle.std.proofs.Common.{◌≡◌, subst}
use Rattle.std.specs.Prelude.{IfOk}
use Rattle.sml_modules.specs.Graphs.{top_at}
use Rattle.sml_modules.proofs.Looking.{signature_names}
use Rattle.sml_modules.proofs.graph.EnvGraph.names_signature.Goals as goal

pub returns-clause-names : goal.returns-clause-names
returns-clause-names c = subst (λ z. IfOk c.names.result (λ names. names ≡ z))
    (signature_names c.args.self.now.items (top_at c.args.self.now c.args.top) c.in_ok-tables.tables.now c.in_ok-tables.ensures)
    c.names.ensures.names
