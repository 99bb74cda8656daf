-- The variables in a type, node by node. Only private functions cite this file.
use Rattle.std.specs.Prelude.{ℕ, ltb, List, [], ◌∷◌, Option, Some, None, Bool, true, ◌&&◌, get_or}
use Rattle.semantic_objects.specs.declared.node.TypeNode.{TypeNode}
use Rattle.semantic_objects.specs.declared.node.TypeNode.TheVariants as node
use Rattle.semantic_objects.specs.Trees.{Tree, Trees}
use Rattle.semantic_objects.specs.Nodes.{nowhere}
use Rattle.environment_ages.specs.declared.trees.Limits.{Limits}

-- whether a variable of the scheme around may stand in a type
abbrev pub allows : Option ℕ → ℕ → Bool
allows None i = true
allows (Some count) i = ltb i count

-- whether no other variables stand in a type than those that may
abbrev mutual
  pub holds : Limits → Tree → Bool
  holds limits (Tree.Bound i) = allows limits.own i
  holds limits (Tree.Free n) = ltb n limits.free
  holds limits (Tree.Made c ts) = all_hold limits ts

  pub all_hold : Limits → Trees → Bool
  all_hold limits Trees.Nil = true
  all_hold limits (Trees.Cons t ts) = holds limits t && all_hold limits ts

-- whether the answer is yes at all of some places, where `other` is the one past the end
abbrev pub all_at : Bool → List Bool → List ℕ → Bool
all_at other held [] = true
all_at other held (p ∷ ps) = get_or held p other && all_at other held ps

-- the answer for a node, from those for the nodes before it
abbrev pub node_holds : Limits → List Bool → TypeNode → Bool
node_holds limits held (node.Bound i) = allows limits.own i
node_holds limits held (node.Free n) = ltb n limits.free
node_holds limits held (node.Made c places) = all_at (holds limits nowhere) held places
