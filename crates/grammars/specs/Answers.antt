-- What the toy's reader answers, in terms of phrases, fronts and levels alone.
use Rattle.std.specs.Prelude.{◌≡◌, ℕ, List, None, Result, Ok, Err, ◌≤◌}
use Rattle.grammars.specs.Grammar.{Phrase}
use Rattle.grammars.specs.Texts.{IsRefused, IsTooDeep}
use Rattle.grammars.specs.Shape.{Shape, shape, levels_of}
use Rattle.grammars.specs.Sums.{TallShape, level}
use Rattle.grammars.specs.declared.toy.token.Token.{Token}
use Rattle.grammars.specs.declared.toy.tree.Tree.{Tree}
use Rattle.grammars.specs.declared.toy.refusal.Refusal.{Refusal}
use Rattle.grammars.specs.declared.toy.refusal.Refusal.TheVariants as r

-- a tree with its own height
abbrev pub measured : Shape → TallShape
measured x = record { value = x; height = levels_of x }

-- The whole text is a sum, and this its tree; or it is refused, or too deep, at exactly that place. Nothing is said
-- for want of memory.
abbrev pub Answers : ℕ → List Token → Result Tree Refusal → Type 0
Answers limit tokens (Ok tree) = Phrase (level limit).sum tokens None (measured (shape tree))
Answers limit tokens (Err (r.NoPhrase taken)) = IsRefused (level limit).sum tokens taken
Answers limit tokens (Err (r.TooDeep taken)) = IsTooDeep (level limit).sum tokens taken
Answers limit tokens (Err r.NoMemory) = Unit {0}

-- the height is the tree's own, and within the limit
pub record IsMeasured (limit : ℕ) (made : TallShape) : Type 0 where
  pub exact : made.height ≡ levels_of made.value
  pub low : made.height ≤ limit
