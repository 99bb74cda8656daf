use Rattle.std.proofs.Common.{◌≡◌, ◌+◌, ◌*◌, drop}
use Rattle.type_nodes.specs.Tables.{state}
use Rattle.structure_matching.specs.Searching.{structure_of_component, FindsStructure}
use Rattle.structure_matching.specs.Enriching.{AllMeet}
use Rattle.structure_matching.proofs.EnrichingSteps.{EnrichedTo}
use Rattle.structure_matching.proofs.enriching.+enriching.Given as goal

abbrev pub decreases-enrich_env : goal.decreases-enrich_env
decreases-enrich_env l = 3 * l.levels + 2

abbrev pub decreases-enrich_structure : goal.decreases-enrich_structure
decreases-enrich_structure l = 3 * l.levels

abbrev pub decreases-enrich_structures : goal.decreases-enrich_structures
decreases-enrich_structures l = 3 * l.levels + 1

abbrev pub invariant-enrich_structures-loop-component : goal.invariant-enrich_structures-loop-component
invariant-enrich_structures-loop-component l = record {
  enriched : EnrichedTo l.at (state l.fn.t) (FindsStructure l.g.items l.fn.path (state l.fn.t))
      (structure_of_component l.g.items l.fn.path) l.components (drop l.component-index l.components);
  table : l.t ≡ l.fn.t;
  path : l.path ≡ l.fn.path;
  done : AllMeet l.at (state l.fn.t) l.g.items l.done;
}
