-- Trees and nodes with other leaves in place of variables of a table, and other symbols in place of symbols.
use Rattle.std.specs.Prelude.{ℕ}
use Rattle.semantic_objects.specs.declared.node.TypeNode.{TypeNode}
use Rattle.semantic_objects.specs.declared.node.TypeNode.TheVariants as node
use Rattle.semantic_objects.specs.declared.symbol.Symbol.{Symbol}
use Rattle.semantic_objects.specs.Trees.{Tree, Trees}

abbrev mutual
  pub mapped : (ℕ → Tree) → (Symbol → Symbol) → Tree → Tree
  mapped leaf symbol (Tree.Bound i) = Tree.Bound i
  mapped leaf symbol (Tree.Free n) = leaf n
  mapped leaf symbol (Tree.Made c ts) = Tree.Made (symbol c) (mapped_all leaf symbol ts)

  pub mapped_all : (ℕ → Tree) → (Symbol → Symbol) → Trees → Trees
  mapped_all leaf symbol Trees.Nil = Trees.Nil
  mapped_all leaf symbol (Trees.Cons t ts) = Trees.Cons (mapped leaf symbol t) (mapped_all leaf symbol ts)

abbrev pub mapped_node : (ℕ → TypeNode) → (Symbol → Symbol) → TypeNode → TypeNode
mapped_node leaf symbol (node.Bound i) = node.Bound i
mapped_node leaf symbol (node.Free n) = leaf n
mapped_node leaf symbol (node.Made c places) = node.Made (symbol c) places
