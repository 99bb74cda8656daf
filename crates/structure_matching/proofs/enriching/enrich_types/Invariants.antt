use Rattle.std.proofs.Common.{◌≡◌, drop}
use Rattle.type_nodes.specs.Tables.{state}
use Rattle.structure_matching.specs.Searching.{type_of_component, FindsType}
use Rattle.structure_matching.proofs.EnrichingSteps.{EnrichedTo}
use Rattle.structure_matching.proofs.enriching.enrich_types.Given as goal

abbrev pub invariant-loop-component : goal.invariant-loop-component
invariant-loop-component l = record {
  enriched : EnrichedTo l.at (state l.fn.t) (FindsType l.g.items l.path (state l.fn.t)) (type_of_component l.g.items l.path)
      l.components (drop l.component-index l.components);
  table : l.t ≡ l.fn.t;
}
