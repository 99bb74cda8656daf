-- The toy grammar. With its parts named as a grammar is printed, and n levels left:
--
--     sum     = product { ( "+" | "-" ) product }
--     product = atom { ( "*" | "/" ) atom }
--     atom    = number | name | "-" atom | "(" sum ")"
--
-- Operators of one strength associate to the left, and "*" and "/" bind more tightly. What a "-" negates, what stands
-- in brackets and what stands behind an operator is one level down. What stands before an operator has to be at least
-- one level lower than the limit allows, since it becomes a part.
use Rattle.std.specs.Prelude.{ℕ, zero, suc, ◌+◌, Bool, true, false, is_some, nat_lt}
use Rattle.grammars.specs.Grammar.{Grammar, Tall, above, wraps, expect, ◌>>=◌, ◌>>◌}
use Rattle.grammars.specs.Grammar.Grammar.{pure, refuse, on, within}
use Rattle.grammars.specs.Shape.{Shape, operator_of, joined_by}
use Rattle.grammars.specs.declared.toy.token.Strength.{Strength}
use Rattle.grammars.specs.declared.toy.token.Strength.TheVariants as s
use Rattle.grammars.specs.declared.toy.tree.Operator.{Operator}
use Rattle.grammars.specs.declared.toy.token.Token.{Token}
use Rattle.grammars.specs.declared.toy.token.Token.TheVariants as t

-- a tree with its height
abbrev pub TallShape : Type 0
TallShape = Tall Shape

-- a grammar of such trees
abbrev pub g : Type 1
g = Grammar Token TallShape

-- whether an atom begins with the token
abbrev pub starts_atom : Token → Bool
starts_atom (t.Number n) = true
starts_atom (t.Name c) = true
starts_atom t.Minus = true
starts_atom t.Open = true
starts_atom t.Plus = false
starts_atom t.Times = false
starts_atom t.Slash = false
starts_atom t.Close = false

-- whether the token is a closing bracket
abbrev pub is_close : Token → Bool
is_close t.Close = true
is_close t.Plus = false
is_close t.Minus = false
is_close t.Times = false
is_close t.Slash = false
is_close (t.Number n) = false
is_close (t.Name c) = false
is_close t.Open = false

-- the phrases that nest at most so deep
pub record Level : Type 1 where
  pub atom : g
  pub product : g
  pub sum : g

-- a tree of one token
abbrev pub leaf : Shape → TallShape
leaf x = record { value = x; height = 0 }

-- a tree one level above another
abbrev pub over : (Shape → Shape) → TallShape → TallShape
over wrap inner = record { value = wrap inner.value; height = 1 + inner.height }

-- an atom after its first token, over the phrases of one level less
abbrev pub atom_after : Level → Token → g
atom_after below (t.Number n) = pure (leaf (Shape.number n))
atom_after below (t.Name c) = pure (leaf (Shape.name c))
atom_after below t.Minus = do
  inner ← below.atom
  pure (over Shape.negated inner)
atom_after below t.Open = do
  inner ← below.sum
  expect is_close
  pure (over Shape.grouped inner)
atom_after below t.Plus = refuse
atom_after below t.Times = refuse
atom_after below t.Slash = refuse
atom_after below t.Close = refuse

-- an atom
abbrev pub atom_of : Level → g
atom_of below = on starts_atom (atom_after below) refuse

-- what stands on each side of an operator of this strength
abbrev pub part : Level → Strength → g
part level s.Sum = level.product
part level s.Product = level.atom

-- an operator, after it, with what stands on both its sides
unfoldable pub beside : ℕ → Level → Strength → Operator → TallShape → g
beside n below strength op left = within (nat_lt left.height n) (do
  right ← part below strength
  pure (above (Shape.joined op) left right))

-- parts joined by operators of one strength, after the first of them
unfoldable pub joined : ℕ → Level → Strength → TallShape → g
joined n below strength left =
    wraps n (λ x. is_some (operator_of strength x)) (λ _. part below strength)
    (λ x left right. joined_by (operator_of strength x) left right) left

-- a product, with n levels left
abbrev pub product_of : ℕ → Level → g
product_of n below = do
  first ← atom_of below
  joined n below s.Product first

-- a sum, with n levels left
abbrev pub sum_of : ℕ → Level → g
sum_of n below = do
  first ← product_of n below
  joined n below s.Sum first

-- all phrases with n levels left, over those of one level less
abbrev pub level_of : ℕ → Level → Level
level_of n below = record {
  atom = atom_of below;
  product = product_of n below;
  sum = sum_of n below;
}

-- where no level is left, whatever is to stand there is one too many
abbrev pub no_level : Level
no_level = record {
  atom = within false refuse;
  product = within false refuse;
  sum = within false refuse;
}

-- the phrases of one level less than so many
unfoldable pub below : ℕ → Level
below zero = no_level
below (suc n) = level_of n (below n)

-- the phrases that nest at most so many levels
abbrev pub level : ℕ → Level
level n = level_of n (below n)
