use Rattle.type_nodes.specs.Tables.{state}
use Rattle.structure_matching.proofs.EnrichingSteps.{value_itself}
use Rattle.structure_matching.proofs.enriching.enrich_found_value.Goals as goal

pub returns-then-component-place-clause-enriches : goal.returns-then-component-place-clause-enriches
returns-then-component-place-clause-enriches c inner root home finds =
    value_itself inner c.args.at.now (state c.args.t.now) root c.args.g.now.items c.args.path.now c.args.component.now
    c.args.place c.in_ok-specified.specified.now c.facts_at.result c.in_ok-specified.ensures c.requires
    c.if-component-place.true c.facts_at.ensures c.if-facts_at.false finds
