use Rattle.std.proofs.Common.{◌+◌, ◌*◌, drop}
use Rattle.structure_matching.specs.Searching.{structure_of_component, FindsStructure, AreSettled}
use Rattle.structure_matching.proofs.RealisingSteps.{RealisedTo}
use Rattle.structure_matching.proofs.realising.+realising.Given as goal

abbrev pub decreases-realise_env : goal.decreases-realise_env
decreases-realise_env l = 3 * l.levels + 2

abbrev pub decreases-realise_structure : goal.decreases-realise_structure
decreases-realise_structure l = 3 * l.levels

abbrev pub decreases-realise_structures : goal.decreases-realise_structures
decreases-realise_structures l = 3 * l.levels + 1

abbrev pub invariant-realise_structures-loop-component : goal.invariant-realise_structures-loop-component
invariant-realise_structures-loop-component l = record {
  realised : RealisedTo l.at l.fn.search l.search (FindsStructure l.g.items l.fn.search.path)
      (structure_of_component l.g.items l.fn.search.path) l.components (drop l.component-index l.components);
  done : AreSettled l.at l.g.items l.search l.done;
}
