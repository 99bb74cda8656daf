use Rattle.std.proofs.Common.{ap}
use Rattle.core_scopes.specs.Scopes.{Bindings}
use Rattle.core_scopes.proofs.Scoping.{made_bound}
use Rattle.core_scopes.proofs.scope.Scope.bind_entered.Goals as goal

pub returns-in-Ok-clause-ok : goal.returns-in-Ok-clause-ok
returns-in-Ok-clause-ok g c =
    made_bound c.args.self.now c.bind_lists.new.self c.args.made c.mark-before.ensures.front.hidden c.in-Ok.ensures.ok

pub returns-in-Ok-clause-bound : goal.returns-in-Ok-clause-bound
returns-in-Ok-clause-bound g c =
    ap (λ (sc : Bindings g.row.V.Denot). sc.values) c.in-Ok.ensures.ok
