use Rattle.module_scopes.proofs.Rows.{on_ok}
use Rattle.module_scopes.proofs.Tops.{defines_structures}
use Rattle.module_scopes.proofs.top.TopScope.define_structures.Goals as goal

pub returns : goal.returns
returns c = on_ok c.bind_all.result c.bind_all.ensures
    (λ e g h. defines_structures g c.args.made.now c.bind_all.new.rows c.args.self.now c.enter_structures.new.scope e h
    (c.in_ok-enter_structures.ensures.ok g h))
