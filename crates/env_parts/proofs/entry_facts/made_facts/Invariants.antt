use Rattle.std.proofs.Common.{◌≡◌, drop}
use Rattle.semantic_objects.specs.Trees.{Tree, Trees}
use Rattle.env_parts.specs.Types.{facts_of_tree}
use Rattle.env_parts.specs.TypeSteps.{over_all, facts_at}
use Rattle.env_parts.proofs.entry_facts.made_facts.Given as goal

abbrev pub invariant-loop-place : goal.invariant-loop-place
invariant-loop-place l =
    over_all l.facts (facts_at l.fn.made (drop l.place-index l.fn.places))
    ≡ over_all (facts_of_tree (Tree.Made l.fn.symbol Trees.Nil)) (facts_at l.fn.made l.fn.places)
