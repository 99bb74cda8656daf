use Rattle.std.proofs.Common.{ap, ap₂, ◌∙◌}
use Rattle.env_parts.specs.TypeSteps.{joined}
use Rattle.sml_modules.specs.Adding.{facts_at_places}
use Rattle.sml_modules.proofs.Making.{rows_next, rows_done}
use Rattle.sml_modules.proofs.graph.EnvGraph.facts_of_rows.Goals as goal

pub loop-place-init : goal.loop-place-init
loop-place-init c = ap₂ joined c.none-facts.ensures
    (ap (facts_at_places c.args.self.now.items) (c.as_slice-place-items.ensures ∙ c.in_ok-places.ensures))

pub loop-place-preserved : goal.loop-place-preserved
loop-place-preserved c = rows_next c.args.self.now.items c.as_slice-place-items.result.now c.loop-place.place-index
    c.loop-place.facts c.facts_at.result c.with-facts.result _ c.loop-place-test.true c.facts_at.ensures
    c.with-facts.ensures c.loop-place.invariant

pub returns : goal.returns
returns c = rows_done c.args.self.now.items c.as_slice-place-items.result.now c.loop-place.place-index
    c.loop-place.facts _ c.loop-place-test.false c.loop-place.invariant
