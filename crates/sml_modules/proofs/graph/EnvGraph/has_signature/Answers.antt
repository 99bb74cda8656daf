use Rattle.sml_modules.specs.Items.{at}
use Rattle.sml_modules.proofs.Looking.{is_signature, is_no_signature}
use Rattle.sml_modules.proofs.graph.EnvGraph.has_signature.Goals as goal

pub returns-in-Signature : goal.returns-in-Signature
returns-in-Signature c = is_signature (at c.args.self.now.items c.args.id.place) c.kind_at.result c.kind_at.ensures c.in-Signature.is

pub returns-in_default : goal.returns-in_default
returns-in_default c = is_no_signature (at c.args.self.now.items c.args.id.place) c.kind_at.result c.kind_at.ensures
    c.in_default.not-Signature
