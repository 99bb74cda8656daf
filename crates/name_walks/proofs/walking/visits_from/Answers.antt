use Rattle.std.proofs.Common.{[], ◌∷◌, ◌++◌, ap, ◌∙◌}
use Rattle.environment_walks.specs.declared.steps.Step.TheVariants as step
use Rattle.name_walks.proofs.Visiting.{visiting_begins, visiting_goes_on, visiting_ends}
use Rattle.name_walks.proofs.walking.visits_from.Goals as goal

pub loop-init : goal.loop-init
loop-init c = visiting_begins c.args.nodes.now c.args.at c.new-visits.result c.new-done.result c.add.new.self
    c.new-visits.ensures (λ p. c.new-done.ensures p)
    (c.in_ok-add.ensures.ok ∙ ap (λ z. z ++ step.Enter c.args.at ∷ []) c.new-steps.ensures)

pub loop-preserved : goal.loop-preserved
loop-preserved c = visiting_goes_on c.args.nodes.now c.args.at c.loop.visits c.take_node.new.visits c.loop.done
    c.take_node.new.done c.loop.steps c.pop.new.self c.take_node.new.steps c.in-Some.step c.in-Some.ensures
    c.in_ok-take_node-in-Some.ensures c.loop.invariant

pub returns-in-None : goal.returns-in-None
returns-in-None c = visiting_ends c.args.nodes.now c.args.at c.loop.visits c.loop.done c.loop.steps
    c.in-None.ensures.0 c.loop.invariant
