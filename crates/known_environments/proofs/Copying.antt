-- Nodes that are made for others, one after the other.
use Rattle.std.proofs.Common.{◌≡◌, ℕ, refl, sym, ap, ap₂, ◌∙◌, List, [], ◌∷◌, map}
use Rattle.semantic_objects.specs.declared.node.TypeNode.{TypeNode}
use Rattle.semantic_objects.specs.declared.symbol.Symbol.{Symbol}
use Rattle.semantic_objects.specs.Trees.{Tree, Trees, trees_of}
use Rattle.semantic_objects.specs.Nodes.{unfolded, tree_at, trees_at}
use Rattle.unification.specs.Types.{Substitution}
use Rattle.unification.specs.Closing.{put_tree, put_trees}
use Rattle.type_walks.specs.Images.{AreImages, ArePicked}
use Rattle.type_walks.proofs.Imaging.{picked_trees}
use Rattle.known_environments.specs.Copies.{same_tree}

map_same : (ts : List Tree) → map same_tree ts ≡ ts
map_same [] = refl
map_same (t ∷ ts) = ap (λ z. t ∷ z) (map_same ts)

-- a copy over copies
pub copied_node : (nodes made : List TypeNode) (images places parts : List ℕ) (at : ℕ) (c d : Symbol)
    → AreImages same_tree nodes made images → ArePicked images places parts → d ≡ c
    → tree_at nodes at ≡ Tree.Made c (trees_of (trees_at (unfolded nodes) places))
    → Tree.Made d (trees_of (trees_at (unfolded made) parts)) ≡ same_tree (tree_at nodes at)
copied_node nodes made images places parts at c d h k e f =
    ap₂ Tree.Made e (ap trees_of (picked_trees same_tree nodes made images places parts h k
    ∙ map_same (trees_at (unfolded nodes) places))) ∙ sym f

put_all : (s : Substitution) (ts : List Tree) → trees_of (map (put_tree s) ts) ≡ put_trees s (trees_of ts)
put_all s [] = refl
put_all s (t ∷ ts) = ap (Trees.Cons (put_tree s t)) (put_all s ts)

-- a node over what is known of its parts
pub known_node : (s : Substitution) (nodes made : List TypeNode) (images places parts : List ℕ) (at : ℕ) (c d : Symbol)
    → AreImages (put_tree s) nodes made images → ArePicked images places parts → d ≡ c
    → tree_at nodes at ≡ Tree.Made c (trees_of (trees_at (unfolded nodes) places))
    → Tree.Made d (trees_of (trees_at (unfolded made) parts)) ≡ put_tree s (tree_at nodes at)
known_node s nodes made images places parts at c d h k e f =
    ap₂ Tree.Made e (ap trees_of (picked_trees (put_tree s) nodes made images places parts h k)
    ∙ put_all s (trees_at (unfolded nodes) places)) ∙ sym (ap (put_tree s) f)
