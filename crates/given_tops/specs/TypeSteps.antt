-- What may stand in a type, node by node. Only private functions cite this file.
use Rattle.std.specs.Prelude.{ℕ, ltb, List, [], ◌∷◌, Bool, true, false, ◌&&◌, get_or}
use Rattle.semantic_objects.specs.declared.node.TypeNode.{TypeNode}
use Rattle.semantic_objects.specs.declared.node.TypeNode.TheVariants as node
use Rattle.semantic_objects.specs.Trees.{Tree, Trees}
use Rattle.semantic_objects.specs.Nodes.{nowhere}
use Rattle.given_tops.specs.declared.names.Limits.{Limits}
use Rattle.given_tops.specs.Names.{may_stand}

-- whether nothing else stands in a type than symbols that may, and the first variables of what is around
abbrev mutual
  pub fits : Limits → ℕ → Tree → Bool
  fits limits own (Tree.Bound i) = ltb i own
  fits limits own (Tree.Free n) = false
  fits limits own (Tree.Made c ts) = may_stand limits c && all_fit limits own ts

  pub all_fit : Limits → ℕ → Trees → Bool
  all_fit limits own Trees.Nil = true
  all_fit limits own (Trees.Cons t ts) = fits limits own t && all_fit limits own ts

-- whether the answer is yes at all of some places, where `other` is the one past the end
abbrev pub all_at : Bool → List Bool → List ℕ → Bool
all_at other held [] = true
all_at other held (p ∷ ps) = get_or held p other && all_at other held ps

-- the answer for a node, from those for the nodes before it
abbrev pub node_fits : Limits → ℕ → List Bool → TypeNode → Bool
node_fits limits own held (node.Bound i) = ltb i own
node_fits limits own held (node.Free n) = false
node_fits limits own held (node.Made c places) =
    may_stand limits c && all_at (fits limits own nowhere) held places
