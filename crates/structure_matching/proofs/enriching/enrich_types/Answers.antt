use Rattle.std.proofs.Common.{drop, subst, ◌∙◌, ◌+◌}
use Rattle.std.specs.Prelude.{Ok, Err}
use Rattle.type_nodes.specs.Tables.{state}
use Rattle.static_semantics.specs.Holding.{AllItems}
use Rattle.type_phrases.proofs.PartsRead.{passed_on}
use Rattle.structure_matching.specs.Searching.{FindsType, type_of_component, of_components}
use Rattle.structure_matching.specs.Enriching.{Enriches}
use Rattle.structure_matching.proofs.Listing.{drop_item}
use Rattle.structure_matching.proofs.EnrichingSteps.{enriched_one, enriched_stop}
use Rattle.structure_matching.proofs.enriching.enrich_types.Goals as goal

pub returns-in_err-enrich_type-clause-enriches : goal.returns-in_err-enrich_type-clause-enriches
returns-in_err-enrich_type-clause-enriches c =
    let place = c.args.at.now in
    let s = state c.args.t.now in
    let items = c.args.g.now.items in
    let path = c.args.path.now in
    let all = c.args.components.now in
    let i = c.loop-component.component-index in
    let component = c.component-item.result in
    let fault = c.in_err-enrich_type.field-0.0 in
    passed_on (λ r. Enriches place s r (λ root. AllItems (FindsType items path s root) all)
    (of_components (type_of_component items path) all)) c.from_residual.result fault c.from_residual.ensures.1
    (enriched_stop place s (FindsType items path s) (type_of_component items path) all (drop i all) (drop (i + 1) all) component
    fault c.loop-component.invariant.enriched
    (drop_item all i component c.loop-component-test.true c.component-item.is)
    (subst (λ t. Enriches place (state t) (Err fault) (λ root. FindsType items path (state t) root component)
    (type_of_component items path component)) c.loop-component.invariant.table c.in_err-enrich_type.ensures.enriches))

pub loop-component-preserved : goal.loop-component-preserved
loop-component-preserved c =
    let place = c.args.at.now in
    let s = state c.args.t.now in
    let items = c.args.g.now.items in
    let path = c.args.path.now in
    let all = c.args.components.now in
    let i = c.loop-component.component-index in
    let component = c.component-item.result in
    record {
      enriched = enriched_one place s (FindsType items path s) (type_of_component items path) all (drop i all)
          (drop (i + 1) all) component c.loop-component.invariant.enriched
          (drop_item all i component c.loop-component-test.true c.component-item.is)
          (subst (λ t. Enriches place (state t) (Ok tt) (λ root. FindsType items path (state t) root component)
          (type_of_component items path component)) c.loop-component.invariant.table
          c.in_ok-enrich_type.ensures.enriches);
      table = c.in_ok-enrich_type.ensures.table ∙ c.loop-component.invariant.table;
    }
