-- What the toy grammar's phrases are read as.
use Rattle.std.specs.Prelude.{ℕ, ◌+◌, max, Option, Some, None}
use Rattle.grammars.specs.declared.toy.token.Token.{Token}
use Rattle.grammars.specs.declared.toy.token.Token.TheVariants as t
use Rattle.grammars.specs.declared.toy.token.Strength.{Strength}
use Rattle.grammars.specs.declared.toy.token.Strength.TheVariants as s
use Rattle.grammars.specs.declared.toy.tree.Operator.{Operator}
use Rattle.grammars.specs.declared.toy.tree.Operator.TheVariants as o
use Rattle.grammars.specs.declared.toy.tree.Tree.{Tree}
use Rattle.grammars.specs.declared.toy.tree.Tree.TheVariants.{Number, Name, Negated', Grouped', Joined'}

-- a tree without the places of its boxes in memory
pub data Shape : Type 0 where
  number : ℕ → Shape
  name : ℕ → Shape
  negated : Shape → Shape
  grouped : Shape → Shape
  joined : Operator → Shape → Shape → Shape

-- the shape of a tree
abbrev pub shape : Tree → Shape
shape (Number n) = Shape.number n
shape (Name c) = Shape.name c
shape (Negated' p x) = Shape.negated (shape x)
shape (Grouped' p x) = Shape.grouped (shape x)
shape (Joined' op p x q y) = Shape.joined op (shape x) (shape y)

-- how many levels a tree nests
abbrev pub levels_of : Shape → ℕ
levels_of (Shape.number n) = 0
levels_of (Shape.name c) = 0
levels_of (Shape.negated x) = 1 + levels_of x
levels_of (Shape.grouped x) = 1 + levels_of x
levels_of (Shape.joined op x y) = 1 + max (levels_of x) (levels_of y)

-- the operator of this strength that a token is, if it is one
abbrev pub operator_of : Strength → Token → Option Operator
operator_of s.Sum t.Plus = Some o.Add
operator_of s.Sum t.Minus = Some o.Subtract
operator_of s.Product t.Times = Some o.Multiply
operator_of s.Product t.Slash = Some o.Divide
operator_of _ _ = None

-- two parts with such an operator between them; none is asked for where there is no operator
abbrev pub joined_by : Option Operator → Shape → Shape → Shape
joined_by (Some op) x y = Shape.joined op x y
joined_by None x y = x
