use Rattle.std.proofs.Common.{◌≡◌, drop}
use Rattle.type_nodes.specs.Tables.{state}
use Rattle.structure_matching.specs.Enriching.{value_of_component, FindsValue}
use Rattle.structure_matching.proofs.EnrichingSteps.{EnrichedTo}
use Rattle.structure_matching.proofs.enriching.enrich_values.Given as goal

abbrev pub invariant-loop-component : goal.invariant-loop-component
invariant-loop-component l = record {
  enriched : EnrichedTo l.at (state l.fn.t) (FindsValue l.g.items l.path (state l.fn.t)) (value_of_component l.g.items l.path)
      l.components (drop l.component-index l.components);
  table : l.t ≡ l.fn.t;
}
