use Rattle.core_scopes.specs.Scopes.{written_rows}
use Rattle.value_closing.proofs.Entering.{entered}
use Rattle.value_closing.proofs.own.enter.Goals as goal

pub returns-clause-ok : goal.returns-clause-ok
returns-clause-ok c = λ g.
    entered g c.args.own.now (written_rows c.in_ok-rows.rows) c.args.scope.now c.bind_written.new.self
    c.in_ok-rows.ensures c.in_ok-bind_written.ensures.bare (c.in_ok-bind_written.ensures.ok g)
