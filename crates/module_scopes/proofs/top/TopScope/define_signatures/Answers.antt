use Rattle.module_scopes.proofs.Rows.{on_ok}
use Rattle.module_scopes.proofs.Tops.{defines_signatures}
use Rattle.module_scopes.proofs.top.TopScope.define_signatures.Goals as goal

pub returns : goal.returns
returns c = on_ok c.bind_all.result c.bind_all.ensures
    (λ e g h. defines_signatures g c.args.made.now c.bind_all.new.rows c.args.self.now e h)
