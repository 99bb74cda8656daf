use Rattle.std.proofs.Common.{refl, subst}
use Rattle.type_schemes.specs.Heads.{IsHeadOf}
use Rattle.type_schemes.proofs.Walks.{stepped_older, stepped_variable, stepped_node}
use Rattle.type_schemes.proofs.young.Young.step.Goals as goal

pub returns-then-variable-self-clause-step : goal.returns-then-variable-self-clause-step
returns-then-variable-self-clause-step c =
    let h = subst (IsHeadOf c.args.table.now c.args.id) c.in-Variable.is c.in_ok-head.ensures.head in
    stepped_older c.args.table.now c.args.id c.in-Variable.variable c.args.self.now c.args.ids.now
    h.whole h.has h.end c.if-variable-self.true

pub returns-in_ok-set-in-Variable-clause-step : goal.returns-in_ok-set-in-Variable-clause-step
returns-in_ok-set-in-Variable-clause-step c =
    let y = c.args.self.now in
    let h = subst (IsHeadOf c.args.table.now c.args.id) c.in-Variable.is c.in_ok-head.ensures.head in
    stepped_variable c.args.table.now c.args.id c.in-Variable.variable c.in-Variable.variable y
    (record { older = y.older; settled = y.settled; nodes = y.nodes; variables = c.set.new.self }) c.args.ids.now
    c.in_ok-set-in-Variable.ensures refl refl refl h.whole h.has h.end

pub returns-in_ok-meet_node-in-Made-clause-step : goal.returns-in_ok-meet_node-in-Made-clause-step
returns-in_ok-meet_node-in-Made-clause-step c =
    let h = subst (IsHeadOf c.args.table.now c.args.id) c.in-Made.is c.in_ok-head.ensures.head in
    stepped_node c.args.table.now c.args.id c.in-Made.at c.args.self.now c.meet_node.new.self
    c.args.ids.now c.meet_node.new.ids c.is_kept.ensures.kept h.has h.whole c.in_ok-meet_node-in-Made.ensures
