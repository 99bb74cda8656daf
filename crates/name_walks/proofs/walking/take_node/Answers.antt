use Rattle.std.proofs.Common.{sym, ◌∙◌, subst}
use Rattle.type_walks.proofs.Imaging.{on_ok}
use Rattle.name_walks.specs.Visits.{TakesStep}
use Rattle.name_walks.proofs.Visiting.{node_skipped, node_done}
use Rattle.name_walks.proofs.walking.take_node.Goals as goal

pub returns-in-Some : goal.returns-in-Some
returns-in-Some c = subst (λ s. TakesStep c.args.nodes.now s c.args.visits.now c.args.visits.now c.args.done.now
    c.args.done.now c.args.steps.now c.args.steps.now) (sym c.in-Enter.is)
    (node_skipped c.args.nodes.now c.args.visits.now c.args.done.now c.args.steps.now c.in-Enter.at c.in-Some.field-0
    (sym c.of.ensures ∙ c.in-Some.is))

pub returns-in-Leave : goal.returns-in-Leave
returns-in-Leave c = on_ok c.set.result c.set.ensures
    (λ h. subst (λ s. TakesStep c.args.nodes.now s c.args.visits.now c.args.visits.now c.args.done.now
    c.set.new.self c.args.steps.now c.args.steps.now) (sym c.in-Leave.is)
    (node_done c.args.nodes.now c.args.visits.now c.args.done.now c.set.new.self c.args.steps.now c.in-Leave.at
    c.in-Leave.at h))
