use Rattle.sml_types.proofs.Requiring.{demanded_already, fixed_admits, fixed_refuses}
use Rattle.sml_types.proofs.require.demand_node.Goals as goal

pub returns-in-false-true-clause-answer : goal.returns-in-false-true-clause-answer
returns-in-false-true-clause-answer c = demanded_already _ _ _ (fixed_admits c.args.table.now c.args.at c.facts-facts.result
    c.is_kept.ensures.kept c.facts-facts.ensures c.in-false-true.is-0 c.in-false-true.is-1)

pub returns-in-false-false-clause-answer : goal.returns-in-false-false-clause-answer
returns-in-false-false-clause-answer c = fixed_refuses c.args.table.now c.args.at c.facts-facts.result
    c.is_kept.ensures.kept c.facts-facts.ensures c.in-false-false.is-0 c.in-false-false.is-1
