-- The facts of a type from those of its parts, as they are counted node by node.
use Rattle.std.specs.Prelude.{ℕ, ◌+◌, List, [], ◌∷◌, map, get_or, ◌||◌}
use Rattle.semantic_objects.specs.declared.node.TypeNode.{TypeNode}
use Rattle.semantic_objects.specs.declared.node.TypeNode.TheVariants as node
use Rattle.semantic_objects.specs.Trees.{Tree, Trees}
use Rattle.semantic_objects.specs.Nodes.{nowhere}
use Rattle.env_parts.specs.declared.facts.Facts.{Facts}
use Rattle.env_parts.specs.Types.{capped, facts_of_tree, both}

-- a type with one part more
abbrev pub over : Facts → Facts → Facts
over a b = record {
  has_free = a.has_free || b.has_free;
  largest = capped (a.largest + b.largest);
  has_bound_name = a.has_bound_name || b.has_bound_name;
  has_unit_name = a.has_unit_name || b.has_unit_name;
}

abbrev pub over_all : Facts → List Facts → Facts
over_all whole [] = whole
over_all whole (part ∷ parts) = over_all (over whole part) parts

-- the facts at places of a list
abbrev pub facts_at : List Facts → List ℕ → List Facts
facts_at made places = map (λ p. get_or made p (facts_of_tree nowhere)) places

abbrev pub facts_of_node : List Facts → TypeNode → Facts
facts_of_node made (node.Bound i) = facts_of_tree (Tree.Bound i)
facts_of_node made (node.Free n) = facts_of_tree (Tree.Free n)
facts_of_node made (node.Made c places) = over_all (facts_of_tree (Tree.Made c Trees.Nil)) (facts_at made places)

-- facts side by side, from the first one on
abbrev pub joined : Facts → List Facts → Facts
joined facts [] = facts
joined facts (more ∷ rest) = joined (both facts more) rest
