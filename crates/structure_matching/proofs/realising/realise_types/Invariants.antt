use Rattle.std.proofs.Common.{drop}
use Rattle.structure_matching.specs.Searching.{type_of_component, FindsType}
use Rattle.structure_matching.proofs.RealisingSteps.{RealisedTo}
use Rattle.structure_matching.proofs.realising.realise_types.Given as goal

abbrev pub invariant-loop-component : goal.invariant-loop-component
invariant-loop-component l = RealisedTo l.at l.fn.search l.search (FindsType l.g.items l.fn.search.path)
    (type_of_component l.g.items l.fn.search.path) l.components (drop l.component-index l.components)
