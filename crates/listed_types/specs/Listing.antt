-- The variables of a list in a tree: by their places. Only private functions cite this file.
use Rattle.std.specs.Prelude.{ℕ, ◌-◌, ◌||◌, ltb, not, cond}
use Rattle.semantic_objects.specs.declared.node.TypeNode.{TypeNode}
use Rattle.semantic_objects.specs.declared.node.TypeNode.TheVariants as node
use Rattle.semantic_objects.specs.declared.symbol.Symbol.{Symbol}
use Rattle.listed_types.specs.Mapped.{mapped_node}

-- a variable of the list, or another one
abbrev pub list_leaf : ℕ → ℕ → ℕ → TypeNode
list_leaf first count n = cond (ltb n first || not (ltb (n - first) count)) (node.Free n) (node.Bound (n - first))

abbrev pub same_symbol : Symbol → Symbol
same_symbol c = c

abbrev pub list_node : ℕ → ℕ → TypeNode → TypeNode
list_node first count = mapped_node (list_leaf first count) same_symbol
