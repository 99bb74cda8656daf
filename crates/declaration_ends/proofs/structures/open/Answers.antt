use Rattle.type_nodes.specs.Tables.{state}
use Rattle.core_scopes.proofs.Pathing.{if_ok}
use Rattle.declaration_ends.specs.Structures.{large_at}
use Rattle.declaration_ends.proofs.Meeting.{finished}
use Rattle.declaration_ends.proofs.structures.open.Goals as goal

pub returns-in_ok-open_env-clause-taken : goal.returns-in_ok-open_env-clause-taken
returns-in_ok-open_env-clause-taken c = c.in_ok-open_env.ensures (state c.args.t.now).stands c.args.done.now

pub returns-in_ok-large-clause-taken : goal.returns-in_ok-large-clause-taken
returns-in_ok-large-clause-taken c = if_ok c.finish.result _ _
    (λ found h. finished (large_at (state c.args.t.now).stands c.args.g.now.items) c.args.done.now c.finish.new.done
    c.args.steps.now c.args.place c.in_ok-large.large found c.in_ok-large.ensures.large h) c.finish.ensures
