use Rattle.std.proofs.Common.{Some, ap, ◌∙◌}
use Rattle.type_schemes.proofs.Walks.{entry_has, entry_met}
use Rattle.type_schemes.proofs.young.Young.meet_entry.Goals as goal

pub meet-requires-clause-has : goal.meet-requires-clause-has
meet-requires-clause-has c = entry_has c.args.table.now c.args.at c.in-Bound.variable c.in-Bound.to c.is_kept.ensures.history
    (c.entry.ensures ∙ ap Some c.in-Bound.is)

pub returns-in_ok-meet-in-Bound-clause-met : goal.returns-in_ok-meet-in-Bound-clause-met
returns-in_ok-meet-in-Bound-clause-met c = entry_met c.args.table.now c.args.at c.in-Bound.variable c.in-Bound.to c.args.self.now
    c.meet.new.self (c.entry.ensures ∙ ap Some c.in-Bound.is) c.if-variable-self.true c.in_ok-meet-in-Bound.ensures.met
