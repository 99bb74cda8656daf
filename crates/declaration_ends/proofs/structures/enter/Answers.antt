use Rattle.type_nodes.specs.Tables.{state}
use Rattle.core_scopes.proofs.Pathing.{if_ok}
use Rattle.declaration_ends.specs.Structures.{large_at}
use Rattle.declaration_ends.proofs.Meeting.{finished}
use Rattle.declaration_ends.proofs.Nesting.{facts_tell}
use Rattle.declaration_ends.proofs.structures.enter.Goals as goal

pub returns-else-facts-clause-taken : goal.returns-else-facts-clause-taken
returns-else-facts-clause-taken c = if_ok c.finish.result _ _
    (λ found h. finished (large_at (state c.args.t.now).stands c.args.g.now.items) c.args.done.now c.finish.new.done
    c.args.steps.now c.args.place _ found
    (facts_tell (state c.args.t.now).stands c.args.g.now.items c.args.place c.facts_at-facts.result c.facts_at-facts.ensures
    c.if-facts.false) h) c.finish.ensures
