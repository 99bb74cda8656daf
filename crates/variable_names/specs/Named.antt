-- Types in which the variables of a type function stand as type names.
use Rattle.std.specs.Prelude.{ℕ, ◌+◌, ◌<◌, List, [], ◌∷◌, false}
use Rattle.semantic_objects.specs.declared.name.Owner.TheVariants as owner
use Rattle.semantic_objects.specs.declared.name.TyName.{TyName}
use Rattle.semantic_objects.specs.declared.symbol.Symbol.{Symbol}
use Rattle.semantic_objects.specs.declared.symbol.Symbol.TheVariants as symbol
use Rattle.semantic_objects.specs.declared.node.TypeNode.{TypeNode}
use Rattle.semantic_objects.specs.declared.node.TypeNode.TheVariants as node
use Rattle.semantic_objects.specs.Trees.{Tree, Trees}
use Rattle.variable_names.specs.declared.names.TheConstants.{FIRST}

-- the name that stands for a variable
abbrev pub name_of : ℕ → TyName
name_of i = record { owner = owner.Basis; number = FIRST + i; arity = 0; eq = false }

abbrev mutual
  pub named : Tree → Tree
  named (Tree.Bound i) = Tree.Made (symbol.Name (name_of i)) Trees.Nil
  named (Tree.Free n) = Tree.Free n
  named (Tree.Made c ts) = Tree.Made c (all_named ts)

  pub all_named : Trees → Trees
  all_named Trees.Nil = Trees.Nil
  all_named (Trees.Cons t ts) = Trees.Cons (named t) (all_named ts)

abbrev pub named_node : TypeNode → TypeNode
named_node (node.Bound i) = node.Made (symbol.Name (name_of i)) []
named_node (node.Free n) = node.Free n
named_node (node.Made c places) = node.Made c places

-- none of these names stands in a type
abbrev pub IsApartSymbol : Symbol → Type 0
IsApartSymbol symbol.Arrow = Unit {0}
IsApartSymbol (symbol.Record labels) = Unit {0}
IsApartSymbol (symbol.Name name) = name.number < FIRST

abbrev pub IsApartNode : TypeNode → Type 0
IsApartNode (node.Bound i) = Unit {0}
IsApartNode (node.Free n) = Unit {0}
IsApartNode (node.Made c places) = IsApartSymbol c

abbrev pub AreApartNodes : List TypeNode → Type 0
AreApartNodes [] = Unit {0}
AreApartNodes (x ∷ xs) = IsApartNode x × AreApartNodes xs

abbrev mutual
  pub IsApart : Tree → Type 0
  IsApart (Tree.Bound i) = Unit {0}
  IsApart (Tree.Free n) = Unit {0}
  IsApart (Tree.Made c ts) = IsApartSymbol c × AreApart ts

  pub AreApart : Trees → Type 0
  AreApart Trees.Nil = Unit {0}
  AreApart (Trees.Cons t ts) = IsApart t × AreApart ts
