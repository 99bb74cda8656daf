use Rattle.type_nodes.specs.Tables.{state}
use Rattle.sml_types.proofs.Solving.{may_stand_marked, assigned_marked}
use Rattle.sml_types.proofs.unify.assign_marked.Goals as goal

pub bind-requires : goal.bind-requires
bind-requires c = may_stand_marked c.args.table.now c.require.new.table c.args.variable c.args.to c.requires.at c.requires.has
    c.requires.head c.requires.absent c.requires.falls c.in_ok-require.ensures.only c.in_ok-require.ensures.answer

pub returns-clause-answer : goal.returns-clause-answer
returns-clause-answer c = assigned_marked c.args.table.now c.require.new.table c.args.variable c.args.to (state c.bind.new.self)
    c.is_kept.ensures.kept c.is_kept-2.ensures.kept c.requires.marked c.in_ok-require.ensures.only
    c.in_ok-require.ensures.answer c.in_ok-bind.ensures.state
