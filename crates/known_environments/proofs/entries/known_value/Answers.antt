use Rattle.type_nodes.specs.Tables.{state}
use Rattle.known_environments.proofs.Staying.{value_stays, not_true}
use Rattle.known_environments.proofs.entries.known_value.Goals as goal

pub returns-then-not-facts : goal.returns-then-not-facts
returns-then-not-facts c = value_stays (state c.args.by.now).stands c.args.entry.now c.in_ok-facts.facts
    c.in_ok-facts.ensures (not_true c.in_ok-facts.facts.has_free c.if-not-facts.true)
