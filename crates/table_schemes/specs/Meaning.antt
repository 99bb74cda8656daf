-- Schemes inside a table, and the schemes that they are. The Definition of Standard ML (Revised), section 4.5.
use Rattle.std.specs.Prelude.{◌≡◌, ℕ, ◌<◌, List, [], ◌∷◌, ◌++◌, length, map, get_or, slice_get, Some}
use Rattle.semantic_objects.specs.Symbols.{part_count, HasRisingLabels}
use Rattle.semantic_objects.specs.Trees.{Tree, trees_of, TypeScheme}
use Rattle.semantic_objects.specs.Nodes.{nowhere}
use Rattle.unification.specs.Closing.{closed_over}
use Rattle.type_nodes.specs.Tables.{Table, Has, type_of}
use Rattle.table_schemes.specs.declared.scheme.OpenPart.{OpenPart}
use Rattle.table_schemes.specs.declared.scheme.OpenPart.TheVariants as part
use Rattle.table_schemes.specs.declared.scheme.OpenNode.{OpenNode}
use Rattle.table_schemes.specs.declared.scheme.TableScheme.{TableScheme}

-- the tree of a part, where these are the trees of the nodes: an id is what it was made as, with all variables free
abbrev pub part_tree : Table → List Tree → OpenPart → Tree
part_tree t made (part.Closed a) = closed_over [] (type_of t a)
part_tree t made (part.Bound i) = Tree.Bound i
part_tree t made (part.Open k) = get_or made k nowhere

abbrev pub node_tree : Table → List Tree → OpenNode → Tree
node_tree t made x = Tree.Made x.symbol (trees_of (map (part_tree t made) x.parts))

-- the trees of nodes in their order, after those of the nodes before them
abbrev pub unfolded_after : Table → List Tree → List OpenNode → List Tree
unfolded_after t made [] = made
unfolded_after t made (x ∷ xs) = unfolded_after t (made ++ node_tree t made x ∷ []) xs

abbrev pub unfolded : Table → List OpenNode → List Tree
unfolded t nodes = unfolded_after t [] nodes

-- a part of a node before which there are so many
abbrev pub IsPartOf : Table → ℕ → OpenPart → Type 0
IsPartOf t n (part.Closed a) = Has t a
IsPartOf t n (part.Bound i) = Unit {0}
IsPartOf t n (part.Open k) = k < n

-- a part is no id of the table
abbrev pub IsOpen : OpenPart → Type 0
IsOpen (part.Closed a) = ⊥
IsOpen (part.Bound i) = Unit {0}
IsOpen (part.Open k) = Unit {0}

-- one of some parts is none
abbrev pub HasOpen : List OpenPart → Type 0
HasOpen parts = (i : ℕ) × ((a : OpenPart) × ((slice_get parts i ≡ Some a) × IsOpen a))

-- a node at a place: its parts are the table's or stand before it, they are as many as its symbol takes, and labels rise.
-- One of them is no id of the table, so a variable of the scheme stands in the node
pub record IsNodeAt (t : Table) (n : ℕ) (x : OpenNode) : Type 0 where
  pub parts : (i : ℕ) (a : OpenPart) → slice_get x.parts i ≡ Some a → IsPartOf t n a
  pub counted : length x.parts ≡ part_count x.symbol
  pub rising : HasRisingLabels x.symbol
  pub varies : HasOpen x.parts

abbrev pub AreNodes : Table → List OpenNode → Type 0
AreNodes t nodes = (k : ℕ) (x : OpenNode) → slice_get nodes k ≡ Some x → IsNodeAt t k x

-- a part of so many nodes is this tree
pub record IsTree (t : Table) (nodes : List OpenNode) (x : Tree) (a : OpenPart) : Type 0 where
  pub part : IsPartOf t (length nodes) a
  pub tree : part_tree t (unfolded t nodes) a ≡ x

-- what a table has is the type of this scheme, so that its instances can be made of it
pub record IsTableScheme (t : Table) (σ : TypeScheme) (s : TableScheme) : Type 0 where
  pub nodes : AreNodes t s.nodes
  pub root : IsTree t s.nodes σ.body s.root
